use Rattle.std.specs.Prelude.{◌≡◌, ℕ, ◌<◌, ◌≤◌, ◌^◌, true, List, length, All, Option, Some, None}
use Rattle.std.specs.List.{list_all}
use Rattle.fts_commits.specs.Text.{is_text_byte}
use Rattle.fts_commits.specs.declared.change.Change.{Change}
use Rattle.fts_commits.specs.declared.change.Change.TheVariants.{Insert, Update, Delete}

-- a text that a column can have: its bytes are those of texts
abbrev pub IsText : List ℕ → Type 0
IsText text = list_all is_text_byte text ≡ true

-- a text of a column that an UPDATE sets, or keeps
abbrev pub IsNewText : Option (List ℕ) → Type 0
IsNewText (Some text) = IsText text
IsNewText None = Unit {0}

-- the change fits a table of so many columns: an INSERT has a text for each column, an UPDATE a text or none for each
abbrev pub FitsColumns : ℕ → Change → Type 0
FitsColumns columns (Insert key doc texts) = (length texts ≡ columns) × All IsText texts
FitsColumns columns (Update key news) = (length news ≡ columns) × All IsNewText news
FitsColumns columns (Delete key) = Unit {0}

-- a commit that can be made of a table of so many columns: 1 to 1,000 changes that fit it
pub record IsCommit (columns : ℕ) (commit : List Change) : Type 0 where
  pub some : 1 ≤ length commit
  pub few : length commit ≤ 1000
  pub fit : All (FitsColumns columns) commit

-- a document id that is given has eight bytes
abbrev pub FitsId : Option ℕ → Type 0
FitsId (Some doc) = doc < 2 ^ 64
FitsId None = Unit {0}

-- the numbers of a change are those of eight bytes
abbrev pub FitsNumbers : Change → Type 0
FitsNumbers (Insert key doc texts) = (key < 2 ^ 64) × FitsId doc
FitsNumbers (Update key news) = key < 2 ^ 64
FitsNumbers (Delete key) = key < 2 ^ 64

-- a commit that can be asked of a database whose table has so many columns
pub record CanCommit (columns : ℕ) (commit : List Change) : Type 0 where
  pub some : 1 ≤ columns
  pub few : columns ≤ 8
  pub made : IsCommit columns commit
  pub numbers : All FitsNumbers commit
