use Rattle.fts_entries.proofs.Passes.{begin_exact, begin_fits, word_exact, word_fits, finish_exact, finish_fits, all_clean}
use Rattle.fts_entries.proofs.laws.passes_keep.Goals as goal

pub returns-clause-begin_exact : goal.returns-clause-begin_exact
returns-clause-begin_exact c = begin_exact

pub returns-clause-begin_fits : goal.returns-clause-begin_fits
returns-clause-begin_fits c = begin_fits

pub returns-clause-word_exact : goal.returns-clause-word_exact
returns-clause-word_exact c = word_exact

pub returns-clause-word_fits : goal.returns-clause-word_fits
returns-clause-word_fits c = word_fits

pub returns-clause-finish_exact : goal.returns-clause-finish_exact
returns-clause-finish_exact c = finish_exact

pub returns-clause-finish_fits : goal.returns-clause-finish_fits
returns-clause-finish_fits c = finish_fits

pub returns-clause-gone : goal.returns-clause-gone
returns-clause-gone c = all_clean
