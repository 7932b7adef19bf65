-- What a commit does to the rows of a table.
use Rattle.std.specs.Prelude.{◌≡◌, ℕ, ◌+◌, ◌≤◌, ◌==◌, Bool, true, List, length}
use Rattle.std.specs.List.{list_any}
use Rattle.std.specs.Ordering.{nat_cmp}
use Rattle.std.specs.BTreeSet.{insert_key}
use Rattle.fts_ids.specs.Ids.{Ascend}
use Rattle.fts_types.specs.Row.{Row}
use Rattle.fts_commits.specs.Commit.{Rows, with_key, with_row}
use Rattle.fts_commits.specs.Turn.{Turn, RowsAscend, has_doc, rows_but, rows_by, turn_between}
use Rattle.fts_rows.specs.Rows.{Held}

-- whether an id is among these
abbrev pub is_among : ℕ → List ℕ → Bool
is_among doc ids = list_any (λ id. id == doc) ids

-- ascending ids of the dead with one more, in its place
abbrev pub with_death : ℕ → List ℕ → List ℕ
with_death doc deaths = insert_key nat_cmp deaths doc

-- the rows with this one behind all others
abbrev pub after_row : Rows → Row → Rows
after_row rows row = with_row row.key row.doc row.texts rows

-- no two of the rows have one key
abbrev pub HaveKeysOnce : List Row → Type 0
HaveKeysOnce rows = (key : ℕ) → length (with_key key rows) ≤ 1

-- the turn fits these rows: it leads to rows of which no two have one key, at most so many of them new, under ids above
-- all others, and who dies stands in the rows
pub record Fits (rows : Rows) (turn : Turn) (count : ℕ) : Type 0 where
  pub keys : HaveKeysOnce (rows_by rows turn).list
  pub ids : RowsAscend rows.largest turn.largest turn.births
  pub alive : (doc : ℕ) → is_among doc turn.deaths ≡ true → has_doc doc rows.list ≡ true
  pub few : length turn.births ≤ count

-- the turn is the one between these rows and those that it leads to, and who dies is one of the rows
pub record IsTurnOf (rows : Rows) (turn : Turn) : Type 0 where
  pub between : turn ≡ turn_between rows (rows_by rows turn)
  pub counted : length (rows_but turn.deaths rows.list) + length turn.deaths ≡ length rows.list

-- the plan leads from these rows to those, as the turn between them, and there is room for it; who dies is told by
-- ascending ids
pub record PlanFor (held : Held) (planned : Turn) (after : Rows) : Type 0 where
  pub leads : rows_by held.rows planned ≡ after
  pub turn : planned ≡ turn_between held.rows after
  pub fits : Fits held.rows planned held.room
  pub ascend : Ascend planned.deaths
