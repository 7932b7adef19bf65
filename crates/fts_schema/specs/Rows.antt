-- Rows, as they are written one behind another.
use Rattle.std.specs.Prelude.{◌≡◌, ℕ, ◌+◌, List, ◌++◌, length}
use Rattle.fts_schema.specs.Listing.{lines}
use Rattle.fts_schema.specs.declared.rows.RowLines.{RowLines}

-- these rows were written behind others, and counted
pub record Puts (old new : RowLines) (rows : List (List ℕ)) : Type 0 where
  pub text : new.text.items ≡ old.text.items ++ lines rows
  pub count : new.count ≡ old.count + length rows
