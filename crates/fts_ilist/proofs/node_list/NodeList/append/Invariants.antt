use Rattle.std.proofs.Common.{◌≡◌, ◌+◌, ◌≤◌, ◌++◌, length}
use Rattle.fts_ilist.specs.NodeList.{nodes_size}
use Rattle.fts_ilist.proofs.node_list.NodeList.append.Given as goal

abbrev pub invariant-loop-rest : goal.invariant-loop-rest
invariant-loop-rest l =
    (l.self.nodes ++ l.rest ≡ l.initial.self.nodes ++ l.fn.nodes)
    × (length l.rest ≤ l.self.node_room)
    × (nodes_size l.rest ≤ l.self.byte_room)
    × (l.initial.self.node_room + length l.rest ≡ l.self.node_room + length l.fn.nodes)
    × (l.initial.self.byte_room + nodes_size l.rest ≡ l.self.byte_room + nodes_size l.fn.nodes)

abbrev pub decreases-loop-rest : goal.decreases-loop-rest
decreases-loop-rest l = length l.rest
