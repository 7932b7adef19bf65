-- What a typed getter of `clap` reads of an entry, as the definitions say it.
use Rattle.std.proofs.Common.{◌≡◌, ◌∙◌, ℕ, Bool, true, false, List, [], ◌∷◌, Option, Some, None, refl, ap, length, ◌&&◌}
use Rattle.std.specs.Prelude.{Result, Ok, Err, nat_lt, codes, ◌^◌, option_and_then}
use Rattle.std.specs.List.{list_all}
use Rattle.std.specs.Result.{result_ok}
use Rattle.std.specs.Str.{bytes_eq}
use Rattle.std.specs.Str.Parse.{AllDigits, ParsesBool, ParsesUnsigned, digits_value, without_leading_plus}
use Rattle.std.specs.Char.{digit_value}
use Rattle.std.proofs.lemmas.Bool.{ltb-true, lt-ltb}
use Rattle.std.proofs.lemmas.Slice.Eq.{bytes_eq-Decides}
use Rattle.clap.specs.Matches.{ReadsOne, one_text}
use Rattle.clap.specs.ValueTests.{is_numeral}
use Rattle.clap.specs.Walk.{Text, one_of, rows_of}
use Rattle.clap.specs.declared.parser.matches.Found.{Found}
use Rattle.clap.proofs.WalkLemmas.{both, one_text-rows}
use Rattle.fts_args.specs.Options.{flag_of, number_of}

digits_pass : (ds : List ℕ) → AllDigits 10 ds → list_all (λ d. nat_lt (digit_value d) 10) ds ≡ true
digits_pass [] h = refl
digits_pass (d ∷ ds) h = rw (lt-ltb (digit_value d) 10 h.0) (digits_pass ds h.1)

digits_from : (ds : List ℕ) → list_all (λ d. nat_lt (digit_value d) 10) ds ≡ true → AllDigits 10 ds
digits_from [] e = tt
digits_from (d ∷ ds) e =
    let parts = both _ _ e in
    (ltb-true _ _ parts.0, digits_from ds parts.1)

abbrev is_number : ℕ → List ℕ → Bool
is_number bits digits = is_numeral digits && nat_lt (digits_value 10 digits) (2 ^ bits)

-- a text is read as a number as `parse` reads it
pub number_parsed : {E : Type 0} (bits : ℕ) (text : Text) (r : Result ℕ E) → ParsesUnsigned bits 10 text r → result_ok r ≡ number_of bits text
number_parsed bits text (Ok n) h =
    let ds = without_leading_plus text in
    rw (lt-ltb 0 (length ds) h.0.0.0, digits_pass ds h.0.0.1, lt-ltb (digits_value 10 ds) (2 ^ bits) h.0.1) (ap Some h.1)
number_parsed bits text (Err e) h = go (is_number bits (without_leading_plus text)) refl
  where
    go : (b : Bool) → is_number bits (without_leading_plus text) ≡ b → None ≡ number_of bits text
    go false t = rw t refl
    go true t =
        let outer = both _ _ t in
        let inner = both _ _ outer.0 in
        absurd (h ((ltb-true _ _ inner.0, digits_from (without_leading_plus text) inner.1), ltb-true _ _ outer.1))

-- a text is read as a flag's value as `parse` reads it
pub flag_parsed : {E : Type 0} (text : Text) (r : Result Bool E) → ParsesBool text r → result_ok r ≡ flag_of text
flag_parsed text (Ok true) h = rw h refl
flag_parsed text (Ok false) h = rw h refl
flag_parsed text (Err e) h = go (bytes_eq text (codes "true")) refl (bytes_eq text (codes "false")) refl
  where
    go : (b : Bool) → bytes_eq text (codes "true") ≡ b → (d : Bool) → bytes_eq text (codes "false") ≡ d → None ≡ flag_of text
    go true is d other = absurd (h.0 ((bytes_eq-Decides text (codes "true")).0 is))
    go false is true other = absurd (h.1 ((bytes_eq-Decides text (codes "false")).0 other))
    go false is false other = rw (is, other) refl

module _ {A E : Type 0} (gives : Text → Result A E → Type 0) (read : Text → Option A)
    (parsed : (text : Text) (r : Result A E) → gives text r → result_ok r ≡ read text) where
  read_one : (text : Text) (result : Option A) → ReadsOne gives text result → result ≡ read text
  read_one text (Some v) h = parsed text (Ok v) h
  read_one text None h = parsed text (Err h.0) h.1

  -- `get_one` gives what is read of the entry's text
  pub one_is_read : (f : Found) (name : Text) (result : Option A) → (one_text f name ≡ None → result ≡ None)
      → ((text : Text) → one_text f name ≡ Some text → ReadsOne gives text result)
      → result ≡ option_and_then read (one_of name (rows_of f))
  one_is_read f name result none value = go (one_text f name) refl ∙ ap (option_and_then read) (one_text-rows f name)
    where
      go : (found : Option Text) → one_text f name ≡ found → result ≡ option_and_then read (one_text f name)
      go None e = rw e (none e)
      go (Some text) e = rw e (read_one text result (value text e))
