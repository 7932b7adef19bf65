use Rattle.fts_entries.proofs.Next.{is_next, one_next}
use Rattle.fts_entries.proofs.laws.one_batch_is_next.Goals as goal

pub returns-clause-is : goal.returns-clause-is
returns-clause-is c = is_next

pub returns-clause-one : goal.returns-clause-one
returns-clause-one c = one_next
