use Rattle.std.proofs.Common.{sym, subst}
use Rattle.fts_ids.specs.Ids.{Ascend}
use Rattle.fts_lists.proofs.sorted.SortedIds.as_slice.Goals as goal

pub returns-clause-ascending : goal.returns-clause-ascending
returns-clause-ascending c = subst (λ xs. Ascend xs) (sym c.deref.ensures.value) c.self.invariant.0
