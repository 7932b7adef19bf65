use Rattle.std.proofs.Common.{sym, subst, arith}
use Rattle.fts_ids.specs.Ids.{AscendFrom}
use Rattle.fts_lists.proofs.Merging.{AscendFrom-with_ids}
use Rattle.fts_lists.proofs.sorted.SortedIds.put.Goals as goal

pub invariant_of-self : goal.invariant_of-self
invariant_of-self c =
    (subst (λ xs. AscendFrom 0 xs) (sym c.put.ensures.items) (AscendFrom-with_ids c.self.inside.ids.items c.args.ids.now c.self.invariant.0), omega (arith, c.self.invariant.1, c.put.ensures.len, c.put.ensures.capacity))
