use Rattle.std.proofs.Common.{◌≡◌, length}
use Rattle.fts_ilist.specs.Packing.{loose_behind}
use Rattle.fts_ilist.proofs.node_list.loose_behind.Given as goal

abbrev pub invariant-loop-rest : goal.invariant-loop-rest
invariant-loop-rest l = loose_behind l.last l.rest ≡ loose_behind l.fn.node l.fn.nodes

abbrev pub decreases-loop-rest : goal.decreases-loop-rest
decreases-loop-rest l = length l.rest
