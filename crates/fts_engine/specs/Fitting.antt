-- Rows that a table can have.
use Rattle.std.specs.Prelude.{◌≡◌, ℕ, ◌<◌, ◌≤◌, ◌^◌, length, sum_by, All}
use Rattle.fts_types.specs.Row.{Row}
use Rattle.fts_types.specs.declared.settings.Settings.{Settings}
use Rattle.fts_commits.specs.Commit.{Rows}

-- the row has a text for each of so many columns, of at most 65,535 bytes together, and an id below 2^63
pub record IsTableRow (columns : ℕ) (row : Row) : Type 0 where
  pub doc : row.doc < 2 ^ 63
  pub count : length row.texts ≡ columns
  pub short : sum_by length row.texts ≤ 65535

-- each of the rows is one of a table of these settings
abbrev pub AreTableRows : Settings → Rows → Type 0
AreTableRows settings rows = All (IsTableRow (length settings.columns)) rows.list
