-- Reading commits and settings from left to right, as `fts_codec` reads fields.
use Rattle.std.specs.Prelude.{ℕ, zero, suc, ◌<◌, ◌^◌, Bool, true, false, if◌then◌else◌, ◌==◌, List, [], ◌∷◌, ◌++◌}
use Rattle.std.specs.Prelude.{length, Option, Some, None, Result, Ok, Err}
use Rattle.std.specs.List.{list_all}
use Rattle.std.specs.Int.{w16, w32, w64, is_in_range}
use Rattle.fts_codec.specs.Reading.{first_at, behind_at, number_at, piece_at}
use Rattle.fts_codec.specs.Fields.{◌>>=◌, field, tested, many_at}
use Rattle.fts_types.specs.declared.settings.Settings.{Settings}
use Rattle.fts_commits.specs.Commit.{Commit}
use Rattle.fts_commits.specs.Text.{is_text_byte}
use Rattle.fts_commits.specs.Fits.{IsText, IsNewText, FitsColumns}
use Rattle.fts_commits.specs.declared.change.Change.{Change}
use Rattle.fts_commits.specs.declared.change.Change.TheVariants.{Insert, Update, Delete}
use Rattle.fts_rowcodec.specs.Payload.{FitsText, FitsNewText, FitsBytes}
use Rattle.fts_rowcodec.specs.Grammar.{may_join}

-- a text
unfoldable pub text_at : List ℕ → Result (List ℕ × List ℕ) ℕ
text_at bytes = do
  size ← field (number_at w16) bytes
  field (tested (list_all is_text_byte) (piece_at size.0)) size.1

-- a document id, if one is given, by what stands behind either flag, and by how many bytes there are from the flag on
abbrev pub doc_of : ℕ → Option (List ℕ) → Option (List ℕ) → Result (Option ℕ × List ℕ) ℕ
doc_of left (Some rest) given = Ok (None, rest)
doc_of left None (Some rest) = do
  doc ← field (number_at w64) rest
  Ok (Some doc.0, doc.1)
doc_of left None None = Err left

unfoldable pub doc_at : List ℕ → Result (Option ℕ × List ℕ) ℕ
doc_at bytes = doc_of (length bytes) (behind_at 0 bytes) (behind_at 1 bytes)

-- the text that an UPDATE sets, or that the old one is kept, in the same way
abbrev pub new_of : ℕ → Option (List ℕ) → Option (List ℕ) → Result (Option (List ℕ) × List ℕ) ℕ
new_of left (Some rest) set = Ok (None, rest)
new_of left None (Some rest) = do
  text ← text_at rest
  Ok (Some text.0, text.1)
new_of left None None = Err left

unfoldable pub new_at : List ℕ → Result (Option (List ℕ) × List ℕ) ℕ
new_at bytes = new_of (length bytes) (behind_at 0 bytes) (behind_at 1 bytes)

-- an INSERT, an UPDATE and a DELETE of a row of so many columns, behind the change's kind
unfoldable pub insert_at : ℕ → List ℕ → Result (Change × List ℕ) ℕ
insert_at columns bytes = do
  key ← field (number_at w64) bytes
  doc ← doc_at key.1
  texts ← many_at text_at columns doc.1
  Ok (Insert key.0 doc.0 texts.0, texts.1)

unfoldable pub update_at : ℕ → List ℕ → Result (Change × List ℕ) ℕ
update_at columns bytes = do
  key ← field (number_at w64) bytes
  news ← many_at new_at columns key.1
  Ok (Update key.0 news.0, news.1)

unfoldable pub delete_at : List ℕ → Result (Change × List ℕ) ℕ
delete_at bytes = do
  key ← field (number_at w64) bytes
  Ok (Delete key.0, key.1)

-- a change of a row of so many columns, by what stands behind each kind, and by how many bytes there are from it on
abbrev pub kind_of : ℕ → ℕ → Option (List ℕ) → Option (List ℕ) → Option (List ℕ) → Result (Change × List ℕ) ℕ
kind_of columns left (Some rest) update delete = insert_at columns rest
kind_of columns left None (Some rest) delete = update_at columns rest
kind_of columns left None None (Some rest) = delete_at rest
kind_of columns left None None None = Err left

unfoldable pub change_at : ℕ → List ℕ → Result (Change × List ℕ) ℕ
change_at columns bytes = kind_of columns (length bytes) (behind_at 1 bytes) (behind_at 2 bytes) (behind_at 3 bytes)

-- the count of a commit's changes
unfoldable pub count_at : List ℕ → Result (ℕ × List ℕ) ℕ
count_at bytes = do
  rest ← field (behind_at 1) bytes
  field (tested (is_in_range 1 1000) (number_at w16)) rest

-- a commit of rows of so many columns: all of the bytes
unfoldable pub commit_of : ℕ → List ℕ → Result Commit ℕ
commit_of columns bytes = do
  count ← count_at bytes
  changes ← many_at (change_at columns) count.0 count.1
  if length changes.1 == 0 then Ok changes.0 else Err (length changes.1)

-- a text that the log can hold
abbrev pub IsRowText : List ℕ → Type 0
IsRowText text = IsText text × FitsText text

-- a text that an UPDATE sets or keeps, that the log can hold
abbrev pub IsNewRowText : Option (List ℕ) → Type 0
IsNewRowText new = IsNewText new × FitsNewText new

-- a change of a table of so many columns that the log can hold
abbrev pub IsRowChange : ℕ → Change → Type 0
IsRowChange columns change = FitsColumns columns change × FitsBytes change

-- ---- settings

-- the name of one more column
unfoldable pub name_at : List (List ℕ) → List ℕ → Result (List ℕ × List ℕ) ℕ
name_at names bytes = do
  size ← field (tested (is_in_range 1 32) first_at) bytes
  field (tested (may_join names) (piece_at size.0)) size.1

-- so many more
unfoldable pub names_from : List (List ℕ) → ℕ → List ℕ → Result (List (List ℕ) × List ℕ) ℕ
names_from names zero bytes = Ok (names, bytes)
names_from names (suc count) bytes = do
  name ← name_at names bytes
  names_from (names ++ name.0 ∷ []) count name.1

-- the count of the columns, and their names
unfoldable pub names_at : List ℕ → Result (List (List ℕ) × List ℕ) ℕ
names_at bytes = do
  count ← field (tested (is_in_range 1 8) first_at) bytes
  names_from [] count.0 count.1

-- yes or no
abbrev pub flag_of : ℕ → Option Bool
flag_of zero = Some false
flag_of (suc zero) = Some true
flag_of (suc (suc n)) = None

abbrev pub flag_with : List ℕ → Option Bool → Option (Bool × List ℕ)
flag_with rest (Some flag) = Some (flag, rest)
flag_with rest None = None

abbrev pub flag_at : List ℕ → Option (Bool × List ℕ)
flag_at [] = None
flag_at (byte ∷ rest) = flag_with rest (flag_of byte)

-- the settings with these columns whose numbers the bytes are: all of them
unfoldable pub with_numbers : List (List ℕ) → List ℕ → Result Settings ℕ
with_numbers columns bytes = do
  min ← field (tested (is_in_range 1 16) first_at) bytes
  max ← field (tested (is_in_range 10 84) first_at) min.1
  flag ← field flag_at max.1
  words ← field (tested (is_in_range 1 10000) (number_at w16)) flag.1
  cache ← field (tested (is_in_range 1000 80000000) (number_at w32)) words.1
  batch ← field (tested (is_in_range 1 100000) (number_at w32)) cache.1
  if length batch.1 == 0 then Ok (record {
    columns = columns;
    min = min.0;
    max = max.0;
    stopword = flag.0;
    optimize_words = words.0;
    cache_bytes = cache.0;
    batch_docs = batch.0;
  }) else Err (length batch.1)

-- settings: all of the bytes
unfoldable pub settings_of : List ℕ → Result Settings ℕ
settings_of bytes = do
  rest ← field (behind_at 0) bytes
  names ← names_at rest
  with_numbers names.0 names.1

-- settings whose numbers fit their bytes
abbrev pub FitNumbers : Settings → Type 0
FitNumbers settings = (settings.optimize_words < 2 ^ 16) × (settings.cache_bytes < 2 ^ 32)
    × (settings.batch_docs < 2 ^ 32)
