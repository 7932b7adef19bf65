use Rattle.fts_entries.proofs.Coming.{entries_more, seal_less, entries_through, entries_fit}
use Rattle.fts_entries.proofs.Kept.{can_seal}
use Rattle.fts_entries.proofs.laws.entries_can_come.Goals as goal

pub returns-clause-batch : goal.returns-clause-batch
returns-clause-batch c = can_seal

pub returns-clause-more : goal.returns-clause-more
returns-clause-more c = entries_more

pub returns-clause-less : goal.returns-clause-less
returns-clause-less c = seal_less

pub returns-clause-through : goal.returns-clause-through
returns-clause-through c = entries_through

pub returns-clause-fits : goal.returns-clause-fits
returns-clause-fits c = entries_fit
