use Rattle.std.specs.Prelude.{ℕ, ◌<◌, ◌≤◌, ◌^◌, Bool, if◌then◌else◌, List, [], ◌∷◌, ◌++◌, length, All, Option, Some}
use Rattle.std.specs.Prelude.{None}
use Rattle.std.specs.List.{flat_map}
use Rattle.std.specs.Int.{w16, w32, w64, to_be_bytes}
use Rattle.fts_types.specs.declared.settings.Settings.{Settings}
use Rattle.fts_commits.specs.Commit.{Commit}
use Rattle.fts_commits.specs.Fits.{FitsId, IsCommit}
use Rattle.fts_commits.specs.declared.change.Change.{Change}
use Rattle.fts_commits.specs.declared.change.Change.TheVariants.{Insert, Update, Delete}

-- a text: its length in two bytes, and its bytes
abbrev pub text_payload : List ℕ → List ℕ
text_payload text = to_be_bytes w16 (length text) ++ text

-- a document id, if one is given: a flag in one byte, and the id in eight
abbrev pub doc_payload : Option ℕ → List ℕ
doc_payload None = 0 ∷ []
doc_payload (Some doc) = 1 ∷ to_be_bytes w64 doc

-- a text that is set, or that the old one is kept
abbrev pub new_payload : Option (List ℕ) → List ℕ
new_payload None = 0 ∷ []
new_payload (Some text) = 1 ∷ text_payload text

-- a change: its kind, the key in eight bytes, and what it says of the row
abbrev pub change_payload : Change → List ℕ
change_payload (Insert key doc texts) = 1 ∷ (to_be_bytes w64 key ++ (doc_payload doc ++ flat_map text_payload texts))
change_payload (Update key texts) = 2 ∷ (to_be_bytes w64 key ++ flat_map new_payload texts)
change_payload (Delete key) = 3 ∷ to_be_bytes w64 key

-- a commit: its kind, the count of its changes in two bytes, and the changes
abbrev pub commit_payload : Commit → List ℕ
commit_payload commit = 1 ∷ (to_be_bytes w16 (length commit) ++ flat_map change_payload commit)

-- a column: the length of its name in one byte, and the name
abbrev pub column_payload : List ℕ → List ℕ
column_payload name = length name ∷ name

-- yes or no in one byte
abbrev pub flag_payload : Bool → ℕ
flag_payload flag = if flag then 1 else 0

-- the numbers behind the columns: the sizes of words and the flag of stopwords in one byte each, the words of an
-- OPTIMIZE in two, the bytes of the cache and the documents of a batch in four each
abbrev pub numbers_payload : Settings → List ℕ
numbers_payload settings =
    settings.min ∷ settings.max ∷ flag_payload settings.stopword
    ∷ (to_be_bytes w16 settings.optimize_words
    ++ (to_be_bytes w32 settings.cache_bytes ++ to_be_bytes w32 settings.batch_docs))

-- settings: their kind, the count of the columns in one byte, the columns, and the numbers
abbrev pub settings_payload : Settings → List ℕ
settings_payload settings =
    0 ∷ (length settings.columns ∷ (flat_map column_payload settings.columns ++ numbers_payload settings))

-- a text whose length fits two bytes
abbrev pub FitsText : List ℕ → Type 0
FitsText text = length text ≤ 65535

-- a text that is set, if it fits
abbrev pub FitsNewText : Option (List ℕ) → Type 0
FitsNewText (Some text) = FitsText text
FitsNewText None = Unit {0}

-- a change whose numbers fit their bytes
abbrev pub FitsBytes : Change → Type 0
FitsBytes (Insert key doc texts) = (key < 2 ^ 64) × All FitsText texts × FitsId doc
FitsBytes (Update key texts) = (key < 2 ^ 64) × All FitsNewText texts
FitsBytes (Delete key) = key < 2 ^ 64

-- a commit that the log of a table of so many columns can hold
pub record IsWritten (columns : ℕ) (commit : Commit) : Type 0 where
  pub made : IsCommit columns commit
  pub fits : All FitsBytes commit
