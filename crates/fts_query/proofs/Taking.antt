-- What begins at a place of a text whose brackets are paired from there on.
use Rattle.std.proofs.Common.{◌≡◌, ℕ, ◌+◌, ◌-◌, ◌<◌, true, false, eqb, List, [], ◌∷◌, ◌++◌, length, get_or, Option, None, Some, refl, sym, ap, ◌∙◌, subst, ⊎_elim, eq-eqb, ne_eqb, append_assoc}
use Rattle.std.specs.Prelude.{Result, Ok, Err, OnOk, IsSome}
use Rattle.std.proofs.lemmas.Bool.{cases_Bool}
use Rattle.fts_words.specs.Run.{starts, run_at}
use Rattle.fts_words.specs.RawWords.{in_word}
use Rattle.fts_words.proofs.RunLemmas.{clash}
use Rattle.fts_meaning.specs.Quote.{closing_quote}
use Rattle.fts_meaning.specs.Tree.{Token, single, opening, closing, stray}
use Rattle.fts_meaning.specs.Token.{sign_of, stray_at, quoted, word_operand, tokens_at, tokens_from}
use Rattle.fts_meaning.specs.Nesting.{Nests}
use Rattle.fts_meaning.proofs.Places.{tokens_step}

-- what begins here, and that the brackets are paired behind it
pub record Takes (query text : List ℕ) (i height : ℕ) (token : List Token) : Type 0 where
  pub is : tokens_at query text i ≡ token
  pub nests : Nests height (tokens_from query text (i + 1))

module _ (query text : List ℕ) (i height : ℕ) (within : i < length text) (nests : Nests height (tokens_from query text i)) where
  here : Nests height (tokens_at query text i ++ tokens_from query text (i + 1))
  here = subst (Nests height) (tokens_step query text i within) nests

  pub fine : stray_at query text i ≡ false
  unfolding Nests tokens_at
  fine =
      ⊎_elim
      (λ (fault : stray_at query text i ≡ true).
      let is : tokens_at query text i ≡ stray ∷ [] = rw fault refl in
      absurd (subst (λ (ts : List Token). Nests height (ts ++ tokens_from query text (i + 1))) is here))
      (λ ok. ok)
      (cases_Bool (stray_at query text i))

  with_token : (token : List Token) → tokens_at query text i ≡ token → Nests height (token ++ tokens_from query text (i + 1))
  with_token token is = subst (λ (ts : List Token). Nests height (ts ++ tokens_from query text (i + 1))) is here

  pub take_quote : get_or text i 0 ≡ 34 → Takes query text i height (single (sign_of (get_or text (i - 1) 0)) (quoted query i (closing_quote query i)) ∷ [])
  unfolding Nests tokens_at
  take_quote byte =
      let ok = fine in
      let quote : eqb (get_or text i 0) 34 ≡ true = eq-eqb _ 34 byte in
      let is : tokens_at query text i ≡ single (sign_of (get_or text (i - 1) 0)) (quoted query i (closing_quote query i)) ∷ [] = rw (ok, quote) refl in
      record { is = is; nests = with_token _ is }

  pub no_unclosed : get_or text i 0 ≡ 34 → closing_quote query i ≡ None → ⊥
  unfolding stray_at
  no_unclosed byte none =
      let quote : eqb (get_or text i 0) 34 ≡ true = eq-eqb _ 34 byte in
      let fault : stray_at query text i ≡ true = rw (byte, none) refl in
      clash (stray_at query text i) fault fine

  pub take_open : get_or text i 0 ≡ 40 → Takes query text i (height + 1) (opening (sign_of (get_or text (i - 1) 0)) ∷ [])
  unfolding Nests tokens_at
  take_open byte =
      let ok = fine in
      let quote : eqb (get_or text i 0) 34 ≡ false = ap (λ (b : ℕ). eqb b 34) byte in
      let bracket : eqb (get_or text i 0) 40 ≡ true = eq-eqb _ 40 byte in
      let is : tokens_at query text i ≡ opening (sign_of (get_or text (i - 1) 0)) ∷ [] = rw (ok, quote, bracket) refl in
      record { is = is; nests = with_token _ is }

  closing_is : get_or text i 0 ≡ 41 → tokens_at query text i ≡ closing ∷ []
  unfolding tokens_at
  closing_is byte =
      let ok = fine in
      let quote : eqb (get_or text i 0) 34 ≡ false = ap (λ (b : ℕ). eqb b 34) byte in
      let other : eqb (get_or text i 0) 40 ≡ false = ap (λ (b : ℕ). eqb b 40) byte in
      let bracket : eqb (get_or text i 0) 41 ≡ true = eq-eqb _ 41 byte in
      rw (ok, quote, other, bracket) refl

  pub close_above : get_or text i 0 ≡ 41 → 0 < height
  unfolding Nests
  close_above byte = (with_token _ (closing_is byte)).0

  pub take_close : get_or text i 0 ≡ 41 → Takes query text i (height - 1) (closing ∷ [])
  unfolding Nests
  take_close byte = record { is = closing_is byte; nests = (with_token _ (closing_is byte)).1 }

  module _ (no_quote : get_or text i 0 ≡ 34 → ⊥) (no_open : get_or text i 0 ≡ 40 → ⊥) (no_close : get_or text i 0 ≡ 41 → ⊥) where
    pub take_word : starts (in_word text) i ≡ true → Takes query text i height (single (sign_of (get_or text (i - 1) 0)) (word_operand text (run_at (in_word text) (length text) i)) ∷ [])
    unfolding Nests tokens_at
    take_word start =
        let ok = fine in
        let a : eqb (get_or text i 0) 34 ≡ false = ne_eqb _ 34 no_quote in
        let b : eqb (get_or text i 0) 40 ≡ false = ne_eqb _ 40 no_open in
        let c : eqb (get_or text i 0) 41 ≡ false = ne_eqb _ 41 no_close in
        let is : tokens_at query text i ≡ single (sign_of (get_or text (i - 1) 0)) (word_operand text (run_at (in_word text) (length text) i)) ∷ [] = rw (ok, a, b, c, start) refl in
        record { is = is; nests = with_token _ is }

    pub take_nothing : starts (in_word text) i ≡ false → Takes query text i height []
    unfolding Nests tokens_at
    take_nothing start =
        let ok = fine in
        let a : eqb (get_or text i 0) 34 ≡ false = ne_eqb _ 34 no_quote in
        let b : eqb (get_or text i 0) 40 ≡ false = ne_eqb _ 40 no_open in
        let c : eqb (get_or text i 0) 41 ≡ false = ne_eqb _ 41 no_close in
        let is : tokens_at query text i ≡ [] = rw (ok, a, b, c, start) refl in
        record { is = is; nests = with_token _ is }

-- what an answer of Ok says, further
pub on_ok : {V E P Q : Type 0} (r : Result V E) → OnOk r P → (P → Q) → OnOk r Q
on_ok (Ok v) h f = f h
on_ok (Err e) h f = tt

pub some_if : (o : Option ℕ) → (o ≡ None → ⊥) → IsSome o
some_if None never = absurd (never refl)
some_if (Some x) never = refl

-- a list goes on by a token
pub goes_on : (new old token all rest before : List Token) → new ≡ old ++ token → all ≡ token ++ rest → old ++ all ≡ before → new ++ rest ≡ before
goes_on new old token all rest before is split same =
    ap (λ (x : List Token). x ++ rest) is ∙ append_assoc old token rest ∙ sym (ap (λ (x : List Token). old ++ x) split) ∙ same
