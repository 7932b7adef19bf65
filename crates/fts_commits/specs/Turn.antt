-- What a commit does to the rows, as an index sees it: which documents are born and which die.
use Rattle.std.specs.Prelude.{ℕ, ◌<◌, ◌≤◌, ◌==◌, Bool, not, List, [], ◌∷◌, ◌++◌, filter, map, flat_map}
use Rattle.std.specs.List.{All, list_any}
use Rattle.fts_types.specs.Row.{Row}
use Rattle.fts_commits.specs.Commit.{Commit, Rows, rows_after}

-- a turn: the rows that are born and the document ids that die, both in the order of the ids, and the largest id that
-- is used after it
pub record Turn : Type 0 where
  pub births : List Row
  pub deaths : List ℕ
  pub largest : ℕ

-- whether some row has the document id
abbrev pub has_doc : ℕ → List Row → Bool
has_doc doc rows = list_any (λ row. row.doc == doc) rows

-- the rows whose document ids none of the others has
abbrev pub rows_not_in : List Row → List Row → List Row
rows_not_in others rows = filter (λ row. not (has_doc row.doc others)) rows

-- a document is born where it is alive at the commit's end and was not before, and dies where it was alive before and
-- is not at the end. So one whose id is given and taken within one commit does neither; its id is used all the same
abbrev pub turn_between : Rows → Rows → Turn
turn_between before after = record {
  births = rows_not_in before.list after.list;
  deaths = map (λ row. row.doc) (rows_not_in after.list before.list);
  largest = after.largest;
}

-- the turns of commits, from some rows on
abbrev pub turns_from : Rows → List Commit → List Turn
turns_from rows [] = []
turns_from rows (commit ∷ commits) =
    turn_between rows (rows_after rows commit) ∷ turns_from (rows_after rows commit) commits

-- the rows without those of some document ids
abbrev pub rows_but : List ℕ → List Row → List Row
rows_but ids rows = filter (λ row. not (list_any (λ id. id == row.doc) ids)) rows

-- the rows after a turn: those before it without the dead, and behind them those that are born
abbrev pub rows_by : Rows → Turn → Rows
rows_by rows turn = record { list = rows_but turn.deaths rows.list ++ turn.births; largest = turn.largest }

-- the rows that are born in some turns, and the document ids that die, in their order
abbrev pub births_of : List Turn → List Row
births_of turns = flat_map (λ turn. turn.births) turns

abbrev pub deaths_of : List Turn → List ℕ
deaths_of turns = flat_map (λ turn. turn.deaths) turns

-- the ids of the rows ascend, the first above `low`, and none above `high`
abbrev pub RowsAscend : ℕ → ℕ → List Row → Type 0
RowsAscend low high [] = low ≤ high
RowsAscend low high (row ∷ rows) = (low < row.doc) × RowsAscend row.doc high rows

-- turns behind rows whose largest used id is this: what is born has ids above all that were used, and ascending, and
-- what dies had one of those
abbrev pub AreTurns : ℕ → List Turn → Type 0
AreTurns largest [] = Unit {0}
AreTurns largest (turn ∷ turns) = RowsAscend largest turn.largest turn.births
    × All (λ id. id ≤ largest) turn.deaths × AreTurns turn.largest turns
