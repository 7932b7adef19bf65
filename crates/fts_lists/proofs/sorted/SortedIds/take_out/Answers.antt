use Rattle.std.proofs.Common.{sym, subst, not, arith}
use Rattle.fts_ids.specs.Ids.{has, AscendFrom}
use Rattle.fts_ids.proofs.Ascending.{AscendFrom-filter}
use Rattle.fts_lists.proofs.sorted.SortedIds.take_out.Goals as goal

pub invariant_of-self : goal.invariant_of-self
invariant_of-self c =
    (subst (λ xs. AscendFrom 0 xs) (sym c.take_out.ensures.items) (AscendFrom-filter (λ id. not (has c.deref.result.now id)) 0 c.self.inside.ids.items c.self.invariant.0), omega (arith, c.self.invariant.1, c.take_out.ensures.len, c.take_out.ensures.capacity))
