use Rattle.std.proofs.Common.{◌≡◌, ◌≤◌, ℕ, List}
use Rattle.fts_types.specs.Table.{table_of}
use Rattle.fts_aux.specs.Tables.{nodes, IsGivenUp}
use Rattle.fts_aux.proofs.tables.Tables.give_up_room.Given as goal

abbrev pub invariant-loop-place : goal.invariant-loop-place
invariant-loop-place l =
    ((w : List ℕ) → nodes l.self w ≡ nodes l.initial.self w)
    × ((w : List ℕ) → table_of w ≤ l.place → IsGivenUp l.initial.self l.self w)
