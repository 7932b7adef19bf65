use Rattle.std.proofs.Common.{◌≡◌, length}
use Rattle.fts_ids.specs.Ids.{has}
use Rattle.fts_index.specs.Restore.{are_born}
use Rattle.fts_index.proofs.restore.are_born.Given as goal

abbrev pub invariant-loop-rest : goal.invariant-loop-rest
invariant-loop-rest l = are_born (has l.births) l.rest ≡ are_born (has l.births) l.fn.nodes

abbrev pub decreases-loop-rest : goal.decreases-loop-rest
decreases-loop-rest l = length l.rest
