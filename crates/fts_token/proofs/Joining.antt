-- From the bits of word bytes and apostrophes to the bounds of words.
use Rattle.std.proofs.Common.{◌≡◌, ◌≢◌, ne_eqb, ℕ, zero, suc, ◌+◌, ◌-◌, ◌<◌, Bool, true, false, ◌&&◌, ◌||◌, ◌==◌, List, get_or, refl, sym, ap, ap₂, ◌∙◌, subst, ⊎_elim, arith}
use Rattle.std.proofs.lemmas.Bool.{cases_Bool, cases_eq}
use Rattle.fts_words.specs.Byte.{is_word_byte, word_at, apostrophe_at}
use Rattle.fts_words.specs.RawWords.{in_word}
use Rattle.fts_words.proofs.RunLemmas.{clash}
use Rattle.fts_token.specs.Bits.{has_bit, differ, one_before, one_behind}
use Rattle.fts_token.specs.Bounds.{is_inside, is_bound}

four : {a b c d e f g h : Bool} → a ≡ e → b ≡ f → c ≡ g → d ≡ h → (a || (b && (c && d))) ≡ (e || (f && (g && h)))
four p q r s = λ i. p i || (q i && (r i && s i))

-- an apostrophe is no word byte
no_word_byte : (text : List ℕ) (k : ℕ) → apostrophe_at text k ≡ true → word_at text k ≡ false
unfolding apostrophe_at word_at
no_word_byte text k mark =
    ⊎_elim (λ (same : get_or text k 0 ≡ 39). ap is_word_byte same) (λ (other : get_or text k 0 ≢ 39). clash _ mark (ne_eqb (get_or text k 0) 39 other)) (cases_eq (get_or text k 0) 39)

-- before an apostrophe, a place that belongs to a word has a word byte
inside_by_byte : (text : List ℕ) (at : ℕ) (rest : Bool) → (apostrophe_at text at && (is_inside text at && rest)) ≡ (apostrophe_at text at && (word_at text (at - 1) && rest))
unfolding is_inside in_word
inside_by_byte text at rest =
    ⊎_elim
    (λ (mark : apostrophe_at text at ≡ true).
    let none = no_word_byte text at mark in
    rw mark (ap (λ (b : Bool). b && rest) (same at none)))
    (λ (other : apostrophe_at text at ≡ false). rw other refl)
    (cases_Bool (apostrophe_at text at))
  where
    without : (a b c : Bool) → (a || (b && (c && false))) ≡ a
    without true b c = refl
    without false true true = refl
    without false true false = refl
    without false false c = refl

    same : (k : ℕ) → word_at text k ≡ false → is_inside text k ≡ word_at text (k - 1)
    same zero none = sym none
    same (suc i) none =
        let next : i + 1 ≡ suc i = omega arith in
        let last : suc i - 1 ≡ i = omega arith in
        ap (λ (b : Bool). word_at text i || (apostrophe_at text i && (word_at text (i - 1) && b))) (ap (word_at text) next ∙ none)
        ∙ without (word_at text i) (apostrophe_at text i) (word_at text (i - 1)) ∙ ap (word_at text) (sym last)

module _ (text : List ℕ) (at words apostrophes marks bounds : ℕ) (inside behind : Bool)
    (inside_is : inside ≡ is_inside text at) (behind_is : behind ≡ word_at text (at + 64))
    (word_bits : (j : ℕ) → j < 64 → has_bit words j ≡ word_at text (at + j)) (apostrophe_bits : (j : ℕ) → j < 64 → has_bit apostrophes j ≡ apostrophe_at text (at + j))
    (joined : (j : ℕ) → j < 64 → has_bit marks j ≡ (has_bit words j || (has_bit apostrophes j && (one_before inside (has_bit words) j && one_behind behind (has_bit words) j))))
    (changed : (j : ℕ) → j < 64 → has_bit bounds j ≡ differ (has_bit marks j) (one_before inside (has_bit marks) j)) where
  right : (j : ℕ) → j < 64 → one_behind behind (has_bit words) j ≡ word_at text (at + j + 1)
  right j less =
      ⊎_elim
      (λ (last : j ≡ 63). let place : at + 64 ≡ at + 63 + 1 = omega arith in subst (λ (k : ℕ). one_behind behind (has_bit words) k ≡ word_at text (at + k + 1)) (sym last) (behind_is ∙ ap (word_at text) place))
      (λ (other : j ≢ 63).
      let no = ne_eqb j 63 other in
      let place : at + (j + 1) ≡ at + j + 1 = omega arith in
      rw no (word_bits (j + 1) (omega (arith, other)) ∙ ap (word_at text) place))
      (cases_eq j 63)

  marked : (j : ℕ) → j < 64 → has_bit marks j ≡ in_word text (at + j)
  unfolding in_word
  marked zero less =
      let here : at + 0 ≡ at = omega arith in
      joined 0 less ∙ four (word_bits 0 less) (apostrophe_bits 0 less) inside_is (right 0 less)
      ∙ subst (λ (k : ℕ). (word_at text k || (apostrophe_at text k && (is_inside text at && word_at text (k + 1)))) ≡ (word_at text k || (apostrophe_at text k && (word_at text (k - 1) && word_at text (k + 1))))) (sym here) (ap (λ (b : Bool). word_at text at || b) (inside_by_byte text at (word_at text (at + 1))))
  marked (suc i) less =
      let left : at + i ≡ at + suc i - 1 = omega arith in
      joined (suc i) less ∙ four (word_bits (suc i) less) (apostrophe_bits (suc i) less) (word_bits i (omega arith) ∙ ap (word_at text) left) (right (suc i) less)

  inside_bit : (j : ℕ) → j < 64 → one_before inside (has_bit marks) j ≡ is_inside text (at + j)
  unfolding is_inside
  inside_bit zero less = let here : at ≡ at + 0 = omega arith in inside_is ∙ ap (is_inside text) here
  inside_bit (suc i) less =
      let next : suc (at + i) ≡ at + suc i = omega arith in
      marked i (omega arith) ∙ ap (one_before false (in_word text)) next

  pub bounded : (j : ℕ) → j < 64 → has_bit bounds j ≡ is_bound text (at + j)
  unfolding is_bound
  bounded j less = changed j less ∙ ap₂ differ (marked j less) (inside_bit j less)

-- the same of bytes that were copied
module _ (text copy : List ℕ) (at marks : ℕ) (same : (k : ℕ) → get_or copy k 0 ≡ get_or text (at + k) 0) where
  pub copied_words : ((j : ℕ) → j < 64 → has_bit marks j ≡ word_at copy (0 + j)) → (j : ℕ) → j < 64 → has_bit marks j ≡ word_at text (at + j)
  unfolding word_at
  copied_words bits j less = let place : 0 + j ≡ j = omega arith in bits j less ∙ ap (word_at copy) place ∙ ap is_word_byte (same j)

  pub copied_apostrophes : ((j : ℕ) → j < 64 → has_bit marks j ≡ apostrophe_at copy (0 + j)) → (j : ℕ) → j < 64 → has_bit marks j ≡ apostrophe_at text (at + j)
  unfolding apostrophe_at
  copied_apostrophes bits j less = let place : 0 + j ≡ j = omega arith in bits j less ∙ ap (apostrophe_at copy) place ∙ ap (λ x. x == 39) (same j)
