-- The rows of a table, in memory.
use Rattle.std.specs.Prelude.{ℕ, ◌==◌, not, List, filter, find, Option, option_map}
use Rattle.fts_types.specs.declared.limits.Limits.{Limits}
use Rattle.fts_types.specs.Row.{Row}
use Rattle.fts_commits.specs.Commit.{Rows}

-- the rows of a table, the limits that it has, and how many more rows it can take without memory
pub record Held : Type 0 where
  pub rows : Rows
  pub limits : Limits
  pub room : ℕ

-- the rows
abbrev pub rows_of : Held → Rows
rows_of held = held.rows

-- the limits
abbrev pub limits_of : Held → Limits
limits_of held = held.limits

-- the row with the key, if there is one
abbrev pub row_with_key : ℕ → List Row → Option Row
row_with_key key rows = find (λ row. row.key == key) rows

-- the row with the document id, if there is one
abbrev pub row_with_id : ℕ → List Row → Option Row
row_with_id doc rows = find (λ row. row.doc == doc) rows

-- the rows without that of the document id
abbrev pub without_id : ℕ → List Row → List Row
without_id doc rows = filter (λ row. not (row.doc == doc)) rows

-- the texts of the row with the document id, if there is one
abbrev pub texts_with_id : ℕ → List Row → Option (List (List ℕ))
texts_with_id doc rows = option_map (λ row. row.texts) (row_with_id doc rows)
