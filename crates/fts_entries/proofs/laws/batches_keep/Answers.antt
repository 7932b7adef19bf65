use Rattle.fts_entries.proofs.Kept.{still_exact, still_fits, comes_after, same_state}
use Rattle.fts_entries.proofs.laws.batches_keep.Goals as goal

pub returns-clause-exact : goal.returns-clause-exact
returns-clause-exact c = still_exact

pub returns-clause-fits : goal.returns-clause-fits
returns-clause-fits c = still_fits

pub returns-clause-behind : goal.returns-clause-behind
returns-clause-behind c = comes_after

pub returns-clause-state : goal.returns-clause-state
returns-clause-state c = same_state
