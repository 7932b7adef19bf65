use Rattle.std.proofs.Common.{◌≡◌, ◌++◌, ℕ, List, length}
use Rattle.std.specs.List.{AllByRecursion}
use Rattle.fts_ilist.specs.Node.{NodesAfter, last_of, nodes_for}
use Rattle.fts_aux.specs.Table.{needs, with_room}
use Rattle.fts_aux.specs.Tables.{nodes, room, HasRoom}
use Rattle.fts_aux.proofs.Ordered.{Ascends}
use Rattle.fts_aux.proofs.tables.Tables.install_batch.Given as goal

abbrev pub invariant-loop-rest : goal.invariant-loop-rest
invariant-loop-rest l =
    ((w : List ℕ) → nodes l.self w ++ nodes_for w l.rest ≡ nodes l.initial.self w ++ nodes_for w l.fn.batch)
    × Ascends l.rest
    × HasRoom l.self l.rest
    × AllByRecursion (λ g. NodesAfter (last_of 0 (nodes l.self g.0)) g.1) l.rest
    × ((w : List ℕ) → with_room (room l.self w) (needs (nodes_for w l.fn.batch)) ≡ with_room (room l.initial.self w) (needs (nodes_for w l.rest)))

abbrev pub decreases-loop-rest : goal.decreases-loop-rest
decreases-loop-rest l = length l.rest
