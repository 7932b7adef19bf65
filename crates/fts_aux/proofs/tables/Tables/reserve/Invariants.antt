use Rattle.std.proofs.Common.{◌≡◌, ◌&&◌, ℕ, List, true, length}
use Rattle.std.specs.List.{list_any}
use Rattle.std.specs.Map.{keys_of}
use Rattle.std.specs.Str.{bytes_eq}
use Rattle.fts_ilist.specs.Node.{nodes_for}
use Rattle.fts_aux.specs.Table.{needs, with_room}
use Rattle.fts_aux.specs.Tables.{nodes, room, HasNoOther, begin_behind}
use Rattle.fts_aux.proofs.tables.Tables.reserve.Given as goal

abbrev pub invariant-loop-rest : goal.invariant-loop-rest
invariant-loop-rest l =
    ((w : List ℕ) → nodes l.self w ≡ nodes l.fn.self w)
    × ((w : List ℕ) → with_room (room l.self w) (needs (nodes_for w l.rest)) ≡ needs (nodes_for w l.fn.batch))
    × HasNoOther l.self l.fn.batch
    × ((w : List ℕ) → list_any (bytes_eq w) (keys_of l.rest) ≡ true → list_any (bytes_eq w) (keys_of l.fn.batch) ≡ true)
    × ((l.behind && begin_behind l.fn.self l.rest) ≡ begin_behind l.fn.self l.fn.batch)

abbrev pub decreases-loop-rest : goal.decreases-loop-rest
decreases-loop-rest l = length l.rest
