-- What the payloads ask of settings and commits, from what these are.
use Rattle.std.proofs.Common.{◌≡◌, ℕ, ◌≤◌, Bool, true, false, List, [], ◌∷◌, length, Option, Some, None, refl, arith}
use Rattle.std.specs.Prelude.{All, if◌then◌else◌}
use Rattle.std.specs.Int.{is_in_range}
use Rattle.std.proofs.lemmas.Bool.{and_parts, leb-true, ltb-true}
use Rattle.std.proofs.lemmas.List.Elements.{All-weaker}
use Rattle.std.proofs.lemmas.List.Sums.{AllPass-from_list_all}
use Rattle.fts_types.specs.declared.settings.Settings.{Settings}
use Rattle.fts_types.specs.declared.check.Field.{Field}
use Rattle.fts_types.specs.declared.check.Field.TheVariants.{Columns, Min, Max, OptimizeWords, CacheBytes, BatchDocs}
use Rattle.fts_types.specs.Settings.{AreSettings, first_wrong_of, is_right, are_columns, is_column_name}
use Rattle.fts_commits.specs.Commit.{Commit}
use Rattle.fts_codec.specs.Grammar.{IsFrom}
use Rattle.fts_codec.proofs.Spelled.{in_range, range_is}
use Rattle.fts_rowcodec.specs.Payload.{IsWritten}
use Rattle.fts_rowcodec.specs.Reading.{FitNumbers, IsRowChange}

-- no field is named as the first wrong one: the next is right, and none behind it is named
chosen : (is : Bool) (field : Field) (later : Option Field) → (if is then later else Some field) ≡ None → (is ≡ true) × (later ≡ None)
chosen true field later e = (refl, e)
chosen false field later e = absurd cc

right : (settings : Settings) (field : Field) (fields : List Field) → first_wrong_of (field ∷ fields) settings ≡ None → (is_right field settings ≡ true) × (first_wrong_of fields settings ≡ None)
right settings field fields e = chosen (is_right field settings) field (first_wrong_of fields settings) e

at_most : (low high n : ℕ) → is_in_range low high n ≡ true → n ≤ high
at_most low high n e = leb-true n high (and_parts _ _ e).1

right_columns : (settings : Settings) → AreSettings settings → are_columns settings.columns ≡ true
right_columns settings are = (right settings Columns (Min ∷ Max ∷ OptimizeWords ∷ CacheBytes ∷ BatchDocs ∷ []) are).0

-- the numbers of settings that a database can have
pub record AreInRange (settings : Settings) : Type 0 where
  pub min : IsFrom 1 16 settings.min
  pub max : IsFrom 10 84 settings.max
  pub words : IsFrom 1 10000 settings.optimize_words
  pub cache : IsFrom 1000 80000000 settings.cache_bytes
  pub batch : IsFrom 1 100000 settings.batch_docs

pub in_ranges : (settings : Settings) → AreSettings settings → (are_columns settings.columns ≡ true) × AreInRange settings
in_ranges settings are =
    let columns = right settings Columns (Min ∷ Max ∷ OptimizeWords ∷ CacheBytes ∷ BatchDocs ∷ []) are in
    let min = right settings Min (Max ∷ OptimizeWords ∷ CacheBytes ∷ BatchDocs ∷ []) columns.1 in
    let max = right settings Max (OptimizeWords ∷ CacheBytes ∷ BatchDocs ∷ []) min.1 in
    let words = right settings OptimizeWords (CacheBytes ∷ BatchDocs ∷ []) max.1 in
    let cache = right settings CacheBytes (BatchDocs ∷ []) words.1 in
    let batch = right settings BatchDocs [] cache.1 in (
      columns.0,
      record {
        min = range_is 1 16 settings.min min.0;
        max = range_is 10 84 settings.max max.0;
        words = range_is 1 10000 settings.optimize_words words.0;
        cache = range_is 1000 80000000 settings.cache_bytes cache.0;
        batch = range_is 1 100000 settings.batch_docs batch.0;
      },
    )

pub settings_are : (settings : Settings) → are_columns settings.columns ≡ true → AreInRange settings → AreSettings settings
settings_are settings columns are =
    rw (
      columns,
      in_range 1 16 settings.min are.min,
      in_range 10 84 settings.max are.max,
      in_range 1 10000 settings.optimize_words are.words,
      in_range 1000 80000000 settings.cache_bytes are.cache,
      in_range 1 100000 settings.batch_docs are.batch,
    ) refl

pub numbers_fit : (settings : Settings) → AreSettings settings → FitNumbers settings
numbers_fit settings are =
    let ranges = (in_ranges settings are).1 in
    (omega (arith, ranges.words.1), omega (arith, ranges.cache.1), omega (arith, ranges.batch.1))

pub short_name : (name : List ℕ) → is_column_name name ≡ true → length name ≤ 32
short_name name is =
    let less = ltb-true (length name) 33 (and_parts _ _ (and_parts _ _ (and_parts _ _ (and_parts _ _ is).0).0).0).0 in
    omega arith

pub few_columns : (settings : Settings) → AreSettings settings → length settings.columns ≤ 8
few_columns settings are =
    at_most 1 8 (length settings.columns) (and_parts _ _ (and_parts _ _ (right_columns settings are)).0).0

pub some_columns : (settings : Settings) → AreSettings settings → 1 ≤ length settings.columns
some_columns settings are =
    leb-true 1 (length settings.columns) (and_parts _ _ (and_parts _ _ (and_parts _ _ (right_columns settings are)).0).0).0

pub short_columns : (settings : Settings) → AreSettings settings → All (λ name. length name ≤ 32) settings.columns
short_columns settings are =
    let names = and_parts _ _ (and_parts _ _ (right_columns settings are)).0 in
    All-weaker (λ name. is_column_name name ≡ true) (λ name. length name ≤ 32) short_name settings.columns (AllPass-from_list_all is_column_name settings.columns names.1)

-- each change of a commit that the log can hold
pub row_changes : (columns : ℕ) (commit : Commit) → IsWritten columns commit → All (IsRowChange columns) commit
row_changes columns commit is k d less = (is.made.fit k d less, is.fits k d less)
