use Rattle.std.specs.Prelude.{◌≡◌, ℕ, Bool, ◌&&◌, ◌||◌, ◌==◌, not, nat_lt, true, false, if◌then◌else◌, List, [], ◌∷◌}
use Rattle.std.specs.Prelude.{length, codes, Option, Some, None}
use Rattle.std.specs.List.{list_all}
use Rattle.std.specs.Int.{is_in_range}
use Rattle.std.specs.Char.{is_ascii_digit, is_ascii_lowercase}
use Rattle.std.specs.Str.{bytes_eq}
use Rattle.fts_words.specs.Order.{is_among}
use Rattle.fts_types.specs.declared.settings.Settings.{Settings}
use Rattle.fts_types.specs.declared.check.Field.{Field}
use Rattle.fts_types.specs.declared.check.Field.TheVariants.{Columns, Min, Max, OptimizeWords, CacheBytes, BatchDocs}

-- a lower-case letter
abbrev pub begins_with_letter : List ℕ → Bool
begins_with_letter [] = false
begins_with_letter (b ∷ bs) = is_ascii_lowercase b

-- a column's name: 1 to 32 lower-case letters, digits and `_`, a letter first, and neither `id` nor `fts_doc_id`
abbrev pub is_column_name : List ℕ → Bool
is_column_name name =
    nat_lt (length name) 33 && begins_with_letter name
    && list_all (λ b. is_ascii_lowercase b || is_ascii_digit b || (b == 95)) name
    && not (bytes_eq name (codes "id")) && not (bytes_eq name (codes "fts_doc_id"))

-- no name stands twice
abbrev pub are_distinct : List (List ℕ) → Bool
are_distinct [] = true
are_distinct (name ∷ names) = not (is_among names name) && are_distinct names

-- the columns of a table: 1 to 8 distinct names
abbrev pub are_columns : List (List ℕ) → Bool
are_columns names = is_in_range 1 8 (length names) && list_all is_column_name names && are_distinct names

-- whether a field has a value that it may have
abbrev pub is_right : Field → Settings → Bool
is_right Columns settings = are_columns settings.columns
is_right Min settings = is_in_range 1 16 settings.min
is_right Max settings = is_in_range 10 84 settings.max
is_right OptimizeWords settings = is_in_range 1 10000 settings.optimize_words
is_right CacheBytes settings = is_in_range 1000 80000000 settings.cache_bytes
is_right BatchDocs settings = is_in_range 1 100000 settings.batch_docs

-- the first of these fields that has a value that it may not have
abbrev pub first_wrong_of : List Field → Settings → Option Field
first_wrong_of [] settings = None
first_wrong_of (field ∷ fields) settings = if is_right field settings then first_wrong_of fields settings else Some
    field

-- the first field that has a value that it may not have
abbrev pub first_wrong : Settings → Option Field
first_wrong settings = first_wrong_of (Columns ∷ Min ∷ Max ∷ OptimizeWords ∷ CacheBytes ∷ BatchDocs ∷ []) settings

-- settings that a database can have
abbrev pub AreSettings : Settings → Type 0
AreSettings settings = first_wrong settings ≡ None
