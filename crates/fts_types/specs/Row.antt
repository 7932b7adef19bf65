use Rattle.std.specs.Prelude.{ℕ, ◌≤◌, List, length, sum_by}
use Rattle.std.specs.Arc.{arc_value}
use Rattle.fts_types.specs.declared.row.Row.{Row as Kept}

-- a row of the table: its key, its document id, and the texts of its columns
pub record Row : Type 0 where
  pub key : ℕ
  pub doc : ℕ
  pub texts : List (List ℕ)

-- the row that is kept as this
abbrev pub row_of : Kept → Row
row_of kept = record { key = kept.key; doc = kept.doc; texts = arc_value kept.texts }

-- the texts are those of a row: 1 to 8 columns, of at most 65,535 bytes together
pub record IsRow (columns : List (List ℕ)) : Type 0 where
  pub some : 1 ≤ length columns
  pub few : length columns ≤ 8
  pub short : sum_by length columns ≤ 65535
