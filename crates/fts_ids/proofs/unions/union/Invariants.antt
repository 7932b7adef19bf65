use Rattle.std.proofs.Common.{length, ◌+◌}
use Rattle.fts_ids.specs.Union.{IsUniting}
use Rattle.fts_ids.proofs.unions.union.Given as goal

abbrev pub invariant-loop-left : goal.invariant-loop-left
invariant-loop-left l = IsUniting l.initial.a l.initial.b l.all.items l.left l.right

abbrev pub decreases-loop-left : goal.decreases-loop-left
decreases-loop-left l = length l.left + length l.right
