-- Indexed words have the form that words of payloads have.
use Rattle.std.proofs.Common.{◌≡◌, ℕ, zero, suc, ◌+◌, ◌-◌, ◌<◌, ◌≤◌, Bool, true, false, not, ◌&&◌, List, ◌∷◌, length, map, take, drop, get_or, Option, Some, sym, refl, ap, subst, ◌∙◌, arith, ⊎_elim, eqb-true, nat_le}
use Rattle.std.specs.Char.{to_ascii_lowercase}
use Rattle.std.proofs.lemmas.Bool.{cases_Bool, or_cases, and_parts, and_from, leb-true, true≢false, true_from_ne_false}
use Rattle.std.proofs.lemmas.Bool.Decides.{nat_tests}
use Rattle.std.proofs.lemmas.List.{drop_more}
use Rattle.fts_words.specs.declared.placed.PlacedWord.{PlacedWord}
use Rattle.fts_words.specs.Byte.{is_word_byte, word_at, apostrophe_at, lowered}
use Rattle.fts_words.specs.Word.{IsRawWord}
use Rattle.fts_words.specs.Order.{is_among}
use Rattle.fts_words.specs.Indexed.{Rules, column_text, word_of, IsIndexedWord}
use Rattle.fts_words.proofs.WordLemmas.{raw_words_within}
use Rattle.fts_ixcodec.specs.Payload.{is_lower_byte, form_step, is_form_from, is_form, IsWord}

lower_byte : (x : ℕ) → is_word_byte x ≡ true → is_lower_byte (to_ascii_lowercase x) ≡ true
lower_byte x h = grind (arith, nat_tests)

-- a step over a word byte, and over an apostrophe behind one
over_byte : (b : Bool) (x : ℕ) → is_word_byte x ≡ true → form_step b (to_ascii_lowercase x) ≡ Some true
over_byte b x h = rw (lower_byte x h) refl

over_mark : (b : Bool) (x : ℕ) → b ≡ true → x ≡ 39 → form_step b (to_ascii_lowercase x) ≡ Some false
over_mark b x is mark = ap (λ c. form_step c (to_ascii_lowercase x)) is ∙ ap (λ y. form_step true (to_ascii_lowercase y)) mark

module _ (text : List ℕ) (from to : ℕ) (word : IsRawWord text from to) where
  never : {X : Type 0} (b : Bool) → b ≡ true → b ≡ false → X
  never b yes_it no_it = absurd (true≢false (sym yes_it ∙ no_it))

  -- from a place of the word on: behind a word byte, or before one
  form_on : (n j : ℕ) (b : Bool) → from ≤ j → j + n ≡ to → (n ≡ 0 → b ≡ true) → (b ≡ false → 0 < n → word_at text j ≡ true)
      → is_form_from (Some b) (map to_ascii_lowercase (take n (drop j text))) ≡ true
  unfolding is_form_from word_at apostrophe_at
  form_on zero j b low end last begin = last refl
  form_on (suc n) j b low end last begin =
      let within = raw_words_within text from to word in
      let less : j < length text = omega (arith, within, end) in
      let x = get_or text j 0 in
      let rest : List ℕ = map to_ascii_lowercase (take n (drop (j + 1) text)) in
      let next : j + 1 + n ≡ to = omega (arith, end) in
      let parts : map to_ascii_lowercase (take (suc n) (drop j text)) ≡ to_ascii_lowercase x ∷ rest = ap (λ xs. map to_ascii_lowercase (take (suc n) xs)) (drop_more text j 0 less) in
      ap (is_form_from (Some b)) parts
      ∙ ⊎_elim
      (λ (is : word_at text j ≡ true).
      ap (λ (o : Option Bool). is_form_from o rest) (over_byte b x is)
      ∙ form_on n (j + 1) true (omega (arith, low)) next (λ e. refl) (λ e. absurd (true≢false e)))
      (λ (none : word_at text j ≡ false).
      let mark : apostrophe_at text j ≡ true = ⊎_elim (λ is. never (word_at text j) is none) (λ (is : apostrophe_at text j ≡ true). is) (or_cases (word_at text j) (apostrophe_at text j) (word.bytes j low (omega (arith, end)))) in
      let behind_byte : b ≡ true = true_from_ne_false b (λ e. never (word_at text j) (begin e (omega arith)) none) in
      ap (λ (o : Option Bool). is_form_from o rest) (over_mark b x behind_byte (eqb-true x 39 mark))
      ∙ form_on n (j + 1) false (omega (arith, low)) next
      (λ e. let place : to - 1 ≡ j = omega (arith, end, e) in never (word_at text j) (subst (λ (k : ℕ). word_at text k ≡ true) place word.last) none)
      (λ e some. ⊎_elim
      (λ (is : word_at text (j + 1) ≡ true). is)
      (λ (twice : apostrophe_at text (j + 1) ≡ true). never (apostrophe_at text j && apostrophe_at text (j + 1)) (and_from (apostrophe_at text j) (apostrophe_at text (j + 1)) mark twice) (word.single j low (omega (arith, end, some))))
      (or_cases (word_at text (j + 1)) (apostrophe_at text (j + 1)) (word.bytes (j + 1) (omega (arith, low)) (omega (arith, end, some))))))
      (cases_Bool (word_at text j))

  pub lowered_form : is_form (lowered (take (to - from) (drop from text))) ≡ true
  lowered_form =
      let some = word.nonempty in
      form_on (to - from) from false (omega arith) (omega (arith, some)) (λ e. absurd (omega (arith, e, some))) (λ e more. word.first)

-- an indexed word is a word of payloads
pub indexed_is_word : (rules : Rules) (texts : List (List ℕ)) (found : PlacedWord) → IsIndexedWord rules texts found → IsWord rules (word_of texts found)
indexed_is_word rules texts found indexed =
    let w : List ℕ = word_of texts found in
    let parts = and_parts (nat_le rules.min (length w) && nat_le (length w) rules.max) (not (is_among rules.stopwords w)) indexed.indexable in
    let sizes = and_parts (nat_le rules.min (length w)) (nat_le (length w) rules.max) parts.0 in
    record {
      form = lowered_form (column_text texts found.column) found.span.from found.span.to indexed.placed.raw_word;
      long = leb-true rules.min (length w) sizes.0;
      short = leb-true (length w) rules.max sizes.1;
    }
