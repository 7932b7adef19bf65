use Rattle.std.proofs.Common.{length}
use Rattle.fts_ids.specs.Ids.{PassesBelow}
use Rattle.fts_ids.proofs.walk.find.Given as goal

abbrev pub invariant-loop-rest : goal.invariant-loop-rest
invariant-loop-rest l = PassesBelow l.id l.ids l.rest

abbrev pub decreases-loop-rest : goal.decreases-loop-rest
decreases-loop-rest l = length l.rest
