use Rattle.std.proofs.Common.{◌≡◌, ◌+◌, length}
use Rattle.fts_ilist.specs.NodeList.{nodes_size}
use Rattle.fts_ilist.proofs.node_list.bytes_of.Given as goal

abbrev pub invariant-loop-rest : goal.invariant-loop-rest
invariant-loop-rest l = l.bytes + nodes_size l.rest ≡ nodes_size l.fn.nodes

abbrev pub decreases-loop-rest : goal.decreases-loop-rest
decreases-loop-rest l = length l.rest
