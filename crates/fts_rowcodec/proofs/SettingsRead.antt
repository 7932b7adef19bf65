-- What is read is spelled so, and what is spelled so is read: settings.
use Rattle.std.proofs.Common.{◌≡◌, ℕ, zero, suc, ◌<◌, ◌^◌, Bool, true, false, cond, eqb, List, [], ◌∷◌, ◌++◌, length, Option, Some, None, Result, Ok, Err, refl, sym, ap, subst, ◌∙◌, append_assoc, arith}
use Rattle.std.specs.List.{flat_map}
use Rattle.std.specs.Int.{w16, w32, to_be_bytes, is_in_range}
use Rattle.std.proofs.lemmas.Bool.{eqb-true, and_parts}
use Rattle.std.proofs.lemmas.List.{append-nil, nil_from_length}
use Rattle.std.proofs.lemmas.List.Concat.{flat_map-cons}
use Rattle.fts_types.specs.declared.settings.Settings.{Settings}
use Rattle.fts_types.specs.Settings.{AreSettings, are_columns}
use Rattle.fts_rowcodec.specs.Payload.{column_payload, flag_payload, numbers_payload, settings_payload}
use Rattle.fts_codec.specs.Reading.{first_at, behind_at, number_at, piece_at}
use Rattle.fts_codec.specs.Fields.{◌>>=◌, field, tested}
use Rattle.fts_codec.specs.Grammar.{IsFrom, one_byte}
use Rattle.fts_rowcodec.specs.Grammar.{may_join}
use Rattle.fts_rowcodec.specs.Reading.{name_at, names_from, names_at, flag_of, flag_with, flag_at, with_numbers, settings_of}
use Rattle.fts_codec.proofs.Spelled.{IsBytes, byte_takes, some_is, Takes, takes_both, Spells, first_spells, number16, number32, piece_spells, piece_again, tested_spells, spells_from, in_range}
use Rattle.fts_codec.proofs.Fields.{bind_ok, bind_again, field_ok, passed_ok, ok_is, reads}
use Rattle.fts_rowcodec.proofs.Bounds.{AreInRange, in_ranges, settings_are}
use Rattle.fts_rowcodec.proofs.Names.{AreJoined, short_joined, joined_names, joined_distinct, names_joined}

-- ---- fields

pub bytes_from : (low high : ℕ) → high < 256 → Spells one_byte (IsFrom low high) (tested (is_in_range low high) first_at)
bytes_from low high within = spells_from one_byte first_at 256 low high within first_spells

pub words_spell : Spells (to_be_bytes w16) (IsFrom 1 10000) (tested (is_in_range 1 10000) (number_at w16))
words_spell = spells_from (to_be_bytes w16) (number_at w16) (2 ^ 16) 1 10000 (omega arith) number16

pub cache_spells : Spells (to_be_bytes w32) (IsFrom 1000 80000000) (tested (is_in_range 1000 80000000) (number_at w32))
cache_spells = spells_from (to_be_bytes w32) (number_at w32) (2 ^ 32) 1000 80000000 (omega arith) number32

pub batch_spells : Spells (to_be_bytes w32) (IsFrom 1 100000) (tested (is_in_range 1 100000) (number_at w32))
batch_spells = spells_from (to_be_bytes w32) (number_at w32) (2 ^ 32) 1 100000 (omega arith) number32

pub names_spell : (names : List (List ℕ)) (size : ℕ) → Spells (λ name. name) (λ name. (length name ≡ size) × (may_join names name ≡ true)) (tested (may_join names) (piece_at size))
names_spell names size = tested_spells (λ name. name) (λ name. length name ≡ size) (piece_at size) (piece_spells size) (may_join names)

abbrev spelled_flag : Bool → List ℕ
spelled_flag flag = one_byte (flag_payload flag)

flag_is : (byte : ℕ) (flag : Bool) → flag_of byte ≡ Some flag → byte ≡ flag_payload flag
flag_is zero flag e = ap flag_payload (some_is false flag e)
flag_is (suc zero) flag e = ap flag_payload (some_is true flag e)
flag_is (suc (suc n)) flag e = absurd cc

flag_takes : (bytes : List ℕ) (flag : Bool) (rest : List ℕ) → IsBytes bytes → flag_at bytes ≡ Some (flag, rest) → Unit {0} × Takes bytes (spelled_flag flag) rest
flag_takes [] flag rest fits e = absurd cc
flag_takes (byte ∷ bytes) flag rest fits e = by (flag_of byte) refl e
  where
    by : (read : Option Bool) → flag_of byte ≡ read → flag_with bytes read ≡ Some (flag, rest) → Unit {0} × Takes (byte ∷ bytes) (spelled_flag flag) rest
    by (Some f) at e =
        subst (λ (p : Bool × List ℕ). Unit {0} × Takes (byte ∷ bytes) (spelled_flag p.0) p.1) (some_is (f, bytes) (flag, rest) e)
        (tt, (ap (λ (n : ℕ). n ∷ bytes) (flag_is byte f at), λ i. fits (suc i)))
    by None at e = absurd cc

flag_again : (flag : Bool) (rest : List ℕ) → flag_at (spelled_flag flag ++ rest) ≡ Some (flag, rest)
flag_again true rest = refl
flag_again false rest = refl

pub flag_spells : Spells spelled_flag (λ flag. Unit {0}) flag_at
flag_spells = record { takes = flag_takes; again = λ flag rest is. flag_again flag rest }

-- ---- names

name_takes : (names : List (List ℕ)) (bytes name rest : List ℕ) → IsBytes bytes → name_at names bytes ≡ Ok (name, rest) → (may_join names name ≡ true) × Takes bytes (column_payload name) rest
unfolding name_at
name_takes names bytes name rest fits e =
    let a = bind_ok (field (tested (is_in_range 1 32) first_at) bytes) (λ size. field (tested (may_join names) (piece_at size.0)) size.1) (name, rest) e in
    let size = (bytes_from 1 32 (omega arith)).takes bytes a.0.0 a.0.1 fits (field_ok (length bytes) (tested (is_in_range 1 32) first_at bytes) a.0 a.1) in
    let piece = (names_spell names a.0.0).takes a.0.1 name rest size.1.1 (field_ok (length a.0.1) (tested (may_join names) (piece_at a.0.0) a.0.1) (name, rest) a.2) in
    let both = takes_both bytes (one_byte a.0.0) a.0.1 name rest size.1 piece.1 in
    (piece.0.1, subst (λ (n : ℕ). Takes bytes (n ∷ name) rest) (sym piece.0.0) both)

name_again : (names : List (List ℕ)) (name rest : List ℕ) → may_join names name ≡ true → name_at names (column_payload name ++ rest) ≡ Ok (name, rest)
unfolding name_at
name_again names name rest joins = rw (in_range 1 32 (length name) (short_joined names name joins), piece_again name rest, joins) refl

-- the names that were read, behind those before
record Adds (names : List (List ℕ)) (count : ℕ) (bytes : List ℕ) (all : List (List ℕ)) (rest : List ℕ) : Type 0 where
  more : List (List ℕ)
  is : all ≡ names ++ more
  counted : length more ≡ count
  joined : AreJoined names more
  takes : Takes bytes (flat_map column_payload more) rest

names_add : (names : List (List ℕ)) (count : ℕ) (bytes : List ℕ) (all : List (List ℕ)) (rest : List ℕ) → IsBytes bytes → names_from names count bytes ≡ Ok (all, rest) → Adds names count bytes all rest
unfolding names_from
names_add names zero bytes all rest fits e =
    subst (λ (p : List (List ℕ) × List ℕ). Adds names 0 bytes p.0 p.1) (ok_is (names, bytes) (all, rest) e)
    (record { more = []; is = sym (append-nil names); counted = refl; joined = tt; takes = (refl, fits) })
names_add names (suc count) bytes all rest fits e =
    let a = bind_ok (name_at names bytes) (λ name. names_from (names ++ name.0 ∷ []) count name.1) (all, rest) e in
    let name = name_takes names bytes a.0.0 a.0.1 fits a.1 in
    let others = names_add (names ++ a.0.0 ∷ []) count a.0.1 all rest name.1.1 a.2 in
    let both = takes_both bytes (column_payload a.0.0) a.0.1 (flat_map column_payload others.more) rest name.1 others.takes in
    record {
      more = a.0.0 ∷ others.more;
      is = others.is ∙ append_assoc names (a.0.0 ∷ []) others.more;
      counted = ap suc others.counted;
      joined = (name.0, others.joined);
      takes = subst (λ (xs : List ℕ). Takes bytes xs rest) (sym (flat_map-cons column_payload a.0.0 others.more)) both;
    }

names_again : (names more : List (List ℕ)) (rest : List ℕ) → AreJoined names more → names_from names (length more) (flat_map column_payload more ++ rest) ≡ Ok (names ++ more, rest)
unfolding names_from
names_again names [] rest joined = ap (λ (all : List (List ℕ)). Ok (all, rest)) (sym (append-nil names))
names_again names (name ∷ more) rest joined =
    let regrouped : flat_map column_payload (name ∷ more) ++ rest ≡ column_payload name ++ (flat_map column_payload more ++ rest) =
    ap (λ (y : List ℕ). y ++ rest) (flat_map-cons column_payload name more) ∙ append_assoc (column_payload name) (flat_map column_payload more) rest in
    ap (names_from names (suc (length more))) regrouped
    ∙ bind_again (name_at names (column_payload name ++ (flat_map column_payload more ++ rest))) (λ name. names_from (names ++ name.0 ∷ []) (length more) name.1) (name, flat_map column_payload more ++ rest) (names ++ name ∷ more, rest)
    (name_again names name (flat_map column_payload more ++ rest) joined.0)
    (names_again (names ++ name ∷ []) more rest joined.1 ∙ ap (λ (all : List (List ℕ)). Ok (all, rest)) (append_assoc names (name ∷ []) more))

columns_take : (bytes : List ℕ) (names : List (List ℕ)) (rest : List ℕ) → IsBytes bytes → names_at bytes ≡ Ok (names, rest)
    → (are_columns names ≡ true) × Takes bytes (length names ∷ flat_map column_payload names) rest
unfolding names_at
columns_take bytes names rest fits e =
    let a = bind_ok (field (tested (is_in_range 1 8) first_at) bytes) (λ count. names_from [] count.0 count.1) (names, rest) e in
    let count = (bytes_from 1 8 (omega arith)).takes bytes a.0.0 a.0.1 fits (field_ok (length bytes) (tested (is_in_range 1 8) first_at bytes) a.0 a.1) in
    let adds = names_add [] a.0.0 a.0.1 names rest count.1.1 a.2 in
    let both = takes_both bytes (one_byte a.0.0) a.0.1 (flat_map column_payload adds.more) rest count.1 adds.takes in
    let counted : Takes bytes (length adds.more ∷ flat_map column_payload adds.more) rest = subst (λ (n : ℕ). Takes bytes (n ∷ flat_map column_payload adds.more) rest) (sym adds.counted) both in
    let are : are_columns adds.more ≡ true = rw (in_range 1 8 (length adds.more) (omega (arith, adds.counted, count.0.0), omega (arith, adds.counted, count.0.1)), joined_names [] adds.more adds.joined, joined_distinct [] adds.more refl adds.joined) refl in
    subst (λ (all : List (List ℕ)). (are_columns all ≡ true) × Takes bytes (length all ∷ flat_map column_payload all) rest) (sym adds.is) (are, counted)

columns_again : (names : List (List ℕ)) (rest : List ℕ) → are_columns names ≡ true → names_at (length names ∷ (flat_map column_payload names ++ rest)) ≡ Ok (names, rest)
unfolding names_at
columns_again names rest are =
    let some : is_in_range 1 8 (length names) ≡ true = (and_parts _ _ (and_parts _ _ are).0).0 in
    let joined = names_joined [] names (and_parts _ _ (and_parts _ _ are).0).1 (and_parts _ _ are).1 in
    rw some (names_again [] names rest joined)

-- ---- numbers

abbrev made : List (List ℕ) → ℕ → ℕ → Bool → ℕ → ℕ → ℕ → Settings
made columns min max flag words cache batch = record {
  columns = columns;
  min = min;
  max = max;
  stopword = flag;
  optimize_words = words;
  cache_bytes = cache;
  batch_docs = batch;
}

-- what is done with each number that is read
module _ (columns : List (List ℕ)) where
  abbrev pub with_batch : ℕ → ℕ → Bool → ℕ → ℕ → ℕ × List ℕ → Result Settings ℕ
  with_batch min max flag words cache batch = cond (eqb (length batch.1) 0) (Ok (made columns min max flag words cache batch.0)) (Err (length batch.1))

  abbrev pub with_cache : ℕ → ℕ → Bool → ℕ → ℕ × List ℕ → Result Settings ℕ
  with_cache min max flag words cache = field (tested (is_in_range 1 100000) (number_at w32)) cache.1 >>= λ batch. with_batch min max flag words cache.0 batch

  abbrev pub with_words : ℕ → ℕ → Bool → ℕ × List ℕ → Result Settings ℕ
  with_words min max flag words = field (tested (is_in_range 1000 80000000) (number_at w32)) words.1 >>= λ cache. with_cache min max flag words.0 cache

  abbrev pub with_flag : ℕ → ℕ → Bool × List ℕ → Result Settings ℕ
  with_flag min max flag = field (tested (is_in_range 1 10000) (number_at w16)) flag.1 >>= λ words. with_words min max flag.0 words

  abbrev pub with_max : ℕ → ℕ × List ℕ → Result Settings ℕ
  with_max min max = field flag_at max.1 >>= λ flag. with_flag min max.0 flag

  abbrev pub with_min : ℕ × List ℕ → Result Settings ℕ
  with_min min = field (tested (is_in_range 10 84) first_at) min.1 >>= λ max. with_max min.0 max

numbers_take : (columns : List (List ℕ)) (bytes : List ℕ) (settings : Settings) → IsBytes bytes → with_numbers columns bytes ≡ Ok settings
    → (settings.columns ≡ columns) × AreInRange settings × (bytes ≡ numbers_payload settings)
unfolding with_numbers
numbers_take columns bytes settings fits e =
    let a = bind_ok (field (tested (is_in_range 1 16) first_at) bytes) (with_min columns) settings e in
    let b = bind_ok (field (tested (is_in_range 10 84) first_at) a.0.1) (with_max columns a.0.0) settings a.2 in
    let c = bind_ok (field flag_at b.0.1) (with_flag columns a.0.0 b.0.0) settings b.2 in
    let d = bind_ok (field (tested (is_in_range 1 10000) (number_at w16)) c.0.1) (with_words columns a.0.0 b.0.0 c.0.0) settings c.2 in
    let f = bind_ok (field (tested (is_in_range 1000 80000000) (number_at w32)) d.0.1) (with_cache columns a.0.0 b.0.0 c.0.0 d.0.0) settings d.2 in
    let g = bind_ok (field (tested (is_in_range 1 100000) (number_at w32)) f.0.1) (with_batch columns a.0.0 b.0.0 c.0.0 d.0.0 f.0.0) settings f.2 in
    let h = passed_ok (eqb (length g.0.1) 0) (length g.0.1) (made columns a.0.0 b.0.0 c.0.0 d.0.0 f.0.0 g.0.0) settings g.2 in
    let nothing : g.0.1 ≡ [] = nil_from_length g.0.1 (eqb-true _ _ h.0) in
    let min = (reads one_byte (IsFrom 1 16) (tested (is_in_range 1 16) first_at) (bytes_from 1 16 (omega arith))).takes bytes a.0.0 a.0.1 fits a.1 in
    let max = (reads one_byte (IsFrom 10 84) (tested (is_in_range 10 84) first_at) (bytes_from 10 84 (omega arith))).takes a.0.1 b.0.0 b.0.1 min.1.1 b.1 in
    let flag = (reads spelled_flag (λ flag. Unit {0}) flag_at flag_spells).takes b.0.1 c.0.0 c.0.1 max.1.1 c.1 in
    let words = (reads (to_be_bytes w16) (IsFrom 1 10000) (tested (is_in_range 1 10000) (number_at w16)) words_spell).takes c.0.1 d.0.0 d.0.1 flag.1.1 d.1 in
    let cache = (reads (to_be_bytes w32) (IsFrom 1000 80000000) (tested (is_in_range 1000 80000000) (number_at w32)) cache_spells).takes d.0.1 f.0.0 f.0.1 words.1.1 f.1 in
    let batch = (reads (to_be_bytes w32) (IsFrom 1 100000) (tested (is_in_range 1 100000) (number_at w32)) batch_spells).takes f.0.1 g.0.0 g.0.1 cache.1.1 g.1 in
    let five = takes_both d.0.1 (to_be_bytes w32 f.0.0) f.0.1 (to_be_bytes w32 g.0.0) g.0.1 cache.1 batch.1 in
    let four = takes_both c.0.1 (to_be_bytes w16 d.0.0) d.0.1 (to_be_bytes w32 f.0.0 ++ to_be_bytes w32 g.0.0) g.0.1 words.1 five in
    let numbers = to_be_bytes w16 d.0.0 ++ (to_be_bytes w32 f.0.0 ++ to_be_bytes w32 g.0.0) in
    let three = takes_both b.0.1 (spelled_flag c.0.0) c.0.1 numbers g.0.1 flag.1 four in
    let two = takes_both a.0.1 (one_byte b.0.0) b.0.1 (flag_payload c.0.0 ∷ numbers) g.0.1 max.1 three in
    let whole = takes_both bytes (one_byte a.0.0) a.0.1 (b.0.0 ∷ flag_payload c.0.0 ∷ numbers) g.0.1 min.1 two in
    let all = a.0.0 ∷ b.0.0 ∷ flag_payload c.0.0 ∷ numbers in
    let spelled : bytes ≡ all = whole.0 ∙ ap (λ (r : List ℕ). all ++ r) nothing ∙ append-nil all in
    let ranges : AreInRange (made columns a.0.0 b.0.0 c.0.0 d.0.0 f.0.0 g.0.0) = record { min = min.0; max = max.0; words = words.0; cache = cache.0; batch = batch.0 } in
    subst (λ (s : Settings). (s.columns ≡ columns) × AreInRange s × (bytes ≡ numbers_payload s)) h.1 (refl, ranges, spelled)

again_field : {X : Type 0} (f : X → List ℕ) (Is : X → Type 0) (one : List ℕ → Option (X × List ℕ)) → Spells f Is one → (x : X) (rest : List ℕ) → Is x → field one (f x ++ rest) ≡ Ok (x, rest)
again_field f Is one spells x rest is = (reads f Is one spells).again x rest is

numbers_again : (settings : Settings) → AreInRange settings → with_numbers settings.columns (numbers_payload settings) ≡ Ok settings
unfolding with_numbers
numbers_again settings are =
    let columns = settings.columns in
    let last = to_be_bytes w32 settings.batch_docs in
    let two = to_be_bytes w32 settings.cache_bytes ++ last in
    let three = to_be_bytes w16 settings.optimize_words ++ two in
    let four = flag_payload settings.stopword ∷ three in
    let five = settings.max ∷ four in
    bind_again (field (tested (is_in_range 1 16) first_at) (numbers_payload settings)) (with_min columns) (settings.min, five) settings
    (again_field one_byte (IsFrom 1 16) (tested (is_in_range 1 16) first_at) (bytes_from 1 16 (omega arith)) settings.min five are.min)
    (bind_again (field (tested (is_in_range 10 84) first_at) five) (with_max columns settings.min) (settings.max, four) settings
    (again_field one_byte (IsFrom 10 84) (tested (is_in_range 10 84) first_at) (bytes_from 10 84 (omega arith)) settings.max four are.max)
    (bind_again (field flag_at four) (with_flag columns settings.min settings.max) (settings.stopword, three) settings
    (again_field spelled_flag (λ flag. Unit {0}) flag_at flag_spells settings.stopword three tt)
    (bind_again (field (tested (is_in_range 1 10000) (number_at w16)) three) (with_words columns settings.min settings.max settings.stopword) (settings.optimize_words, two) settings
    (again_field (to_be_bytes w16) (IsFrom 1 10000) (tested (is_in_range 1 10000) (number_at w16)) words_spell settings.optimize_words two are.words)
    (bind_again (field (tested (is_in_range 1000 80000000) (number_at w32)) two) (with_cache columns settings.min settings.max settings.stopword settings.optimize_words) (settings.cache_bytes, last) settings
    (again_field (to_be_bytes w32) (IsFrom 1000 80000000) (tested (is_in_range 1000 80000000) (number_at w32)) cache_spells settings.cache_bytes last are.cache)
    (bind_again (field (tested (is_in_range 1 100000) (number_at w32)) last) (with_batch columns settings.min settings.max settings.stopword settings.optimize_words settings.cache_bytes) (settings.batch_docs, []) settings
    (again_field (to_be_bytes w32) (IsFrom 1 100000) (tested (is_in_range 1 100000) (number_at w32)) batch_spells settings.batch_docs [] are.batch) refl)))))

-- ---- settings

-- what is read are settings that a database can have, and the bytes their payload
pub settings_take : (bytes : List ℕ) (settings : Settings) → IsBytes bytes → settings_of bytes ≡ Ok settings → AreSettings settings × (bytes ≡ settings_payload settings)
unfolding settings_of
settings_take bytes settings fits e =
    let a = bind_ok (field (behind_at 0) bytes) (λ rest. names_at rest >>= λ names. with_numbers names.0 names.1) settings e in
    let b = bind_ok (names_at a.0) (λ names. with_numbers names.0 names.1) settings a.2 in
    let kind = byte_takes 0 bytes a.0 fits (field_ok (length bytes) (behind_at 0 bytes) a.0 a.1) in
    let names = columns_take a.0 b.0.0 b.0.1 kind.1 b.1 in
    let numbers = numbers_take b.0.0 b.0.1 settings names.1.1 b.2 in
    let spelled : a.0 ≡ length b.0.0 ∷ (flat_map column_payload b.0.0 ++ numbers_payload settings) = names.1.0 ∙ ap (λ (xs : List ℕ). length b.0.0 ∷ (flat_map column_payload b.0.0 ++ xs)) numbers.2 in
    let columns : are_columns settings.columns ≡ true = ap are_columns numbers.0 ∙ names.0 in (
      settings_are settings columns numbers.1,
      kind.0 ∙ ap (λ (xs : List ℕ). 0 ∷ xs) spelled
          ∙ ap (λ (names : List (List ℕ)). 0 ∷ (length names ∷ (flat_map column_payload names ++ numbers_payload settings))) (sym numbers.0),
    )

-- such settings are read from their payload
pub settings_again : (settings : Settings) → AreSettings settings → settings_of (settings_payload settings) ≡ Ok settings
unfolding settings_of
settings_again settings are =
    let ranges = in_ranges settings are in
    bind_again (names_at (length settings.columns ∷ (flat_map column_payload settings.columns ++ numbers_payload settings))) (λ names. with_numbers names.0 names.1) (settings.columns, numbers_payload settings) settings
    (columns_again settings.columns (numbers_payload settings) ranges.0) (numbers_again settings ranges.1)

-- some are read, and so the payload is of no others
pub settings_same : (bytes : List ℕ) (read settings : Settings) → settings_of bytes ≡ Ok read → AreSettings settings → bytes ≡ settings_payload settings → read ≡ settings
settings_same bytes read settings given are e = ok_is read settings (sym given ∙ ap settings_of e ∙ settings_again settings are)

-- none are read, and so they are no payload
pub settings_none : (bytes : List ℕ) (left : ℕ) (settings : Settings) → settings_of bytes ≡ Err left → AreSettings settings → bytes ≡ settings_payload settings → ⊥
settings_none bytes left settings given are e = let whole : settings_of bytes ≡ Ok settings = ap settings_of e ∙ settings_again settings are in absurd cc
