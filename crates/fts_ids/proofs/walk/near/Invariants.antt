use Rattle.std.proofs.Common.{length, ◌<◌}
use Rattle.fts_ids.specs.Ids.{PassesBelow}
use Rattle.fts_ids.proofs.walk.near.Given as goal

abbrev pub invariant-loop-far : goal.invariant-loop-far
invariant-loop-far l = PassesBelow l.id l.ids l.rest × (0 < l.step)

abbrev pub decreases-loop-far : goal.decreases-loop-far
decreases-loop-far l = length l.rest
