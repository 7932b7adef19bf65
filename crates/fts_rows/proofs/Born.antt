-- What comes of one row that is born.
use Rattle.std.proofs.Common.{◌≡◌, ℕ, ◌<◌, false, List, [], ◌∷◌, ◌++◌, map, ap, ◌∙◌}
use Rattle.fts_types.specs.Row.{Row, row_of}
use Rattle.fts_types.specs.declared.row.Row.{Row as HeldRow}
use Rattle.fts_commits.specs.Commit.{Rows, has_key, with_key}
use Rattle.fts_commits.specs.Turn.{Turn, RowsAscend, rows_by}
use Rattle.fts_rows.specs.Plan.{Fits, HaveKeysOnce, IsTurnOf, after_row}
use Rattle.fts_rows.proofs.Keys.{none_with}
use Rattle.fts_rows.proofs.Deaths.{but_none}
use Rattle.fts_rows.proofs.Adding.{fits-none, leads-none, fits-push}
use Rattle.fts_rows.proofs.Turning.{turned}

-- the turn in which this row is born, and nothing else comes or goes
abbrev pub turn_with : Row → Turn
turn_with row = record { births = row ∷ []; deaths = []; largest = row.doc }

pub born_is : (kept : HeldRow) (births : List HeldRow) (deaths : List ℕ) (plan : Turn) → plan ≡ record { births = map row_of births; deaths = deaths; largest = kept.doc }
    → births ≡ kept ∷ [] → deaths ≡ [] → plan ≡ turn_with (row_of kept)
born_is kept births deaths plan made one none =
    made ∙ ap (λ (rows : List HeldRow). let t : Turn = record { births = map row_of rows; deaths = deaths; largest = kept.doc } in t) one
    ∙ ap (λ (ids : List ℕ). let t : Turn = record { births = row_of kept ∷ []; deaths = ids; largest = kept.doc } in t) none

pub one_leads : (rows : Rows) (row : Row) → rows_by rows (turn_with row) ≡ after_row rows row
one_leads rows row = ap (λ (l : List Row). let r : Rows = record { list = l ++ row ∷ []; largest = row.doc } in r) (but_none rows.list)

module _ (rows : Rows) (row : Row) (new : has_key row.key rows.list ≡ false) (above : rows.largest < row.doc) (keys : HaveKeysOnce rows.list) where
  pub one_fits : Fits rows (turn_with row) 1
  one_fits =
      let nothing : Turn = record { births = []; deaths = []; largest = rows.largest } in
      let none : with_key row.key (rows_by rows nothing).list ≡ [] = ap (λ (r : Rows). with_key row.key r.list) (leads-none rows) ∙ none_with row.key rows.list new in
      fits-push rows nothing row 0 none above (fits-none rows keys)

  pub one_turned : RowsAscend 0 rows.largest rows.list → IsTurnOf rows (turn_with row)
  one_turned ascend = turned rows (turn_with row) 1 ascend one_fits tt
