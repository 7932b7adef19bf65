-- What begins at each place of a text, and how the brackets count there.
use Rattle.std.proofs.Common.{◌≡◌, ℕ, suc, ◌+◌, ◌-◌, ◌<◌, ◌≤◌, true, false, eqb, List, [], ◌∷◌, ◌++◌, length, get_or, refl, ap, ◌∙◌, ⊎_elim, arith, eqb-true, eq-eqb}
use Rattle.std.specs.Prelude.{flat_map}
use Rattle.std.specs.List.{range_with_len}
use Rattle.std.proofs.lemmas.Bool.{cases_Bool}
use Rattle.std.proofs.lemmas.List.Sums.{count_by_more_yes, count_by_more_no}
use Rattle.fts_words.specs.Run.{starts, run_at}
use Rattle.fts_words.specs.RawWords.{in_word}
use Rattle.fts_meaning.specs.declared.sign.Sign.{Sign}
use Rattle.fts_meaning.specs.Quote.{closing_quote}
use Rattle.fts_meaning.specs.Tree.{Operand, single, opening, closing, stray}
use Rattle.fts_meaning.specs.Token.{sign_of, stray_at, quoted, word_operand, tokens_at, tokens_from}
use Rattle.fts_meaning.specs.Fault.{opened, closed}

-- the tokens from a place on are those that begin there, and then those behind it
pub tokens_step : (query text : List ℕ) (i : ℕ) → i < length text → tokens_from query text i ≡ tokens_at query text i ++ tokens_from query text (i + 1)
unfolding tokens_from
tokens_step query text i within =
    let counted : length text - i ≡ suc (length text - (i + 1)) = omega arith in
    ap (λ (n : ℕ). flat_map (tokens_at query text) (range_with_len i n)) counted

pub tokens_end : (query text : List ℕ) (i : ℕ) → length text ≤ i → tokens_from query text i ≡ []
unfolding tokens_from
tokens_end query text i past =
    let counted : length text - i ≡ 0 = omega arith in
    ap (λ (n : ℕ). flat_map (tokens_at query text) (range_with_len i n)) counted

-- how the counts go on by a place
pub record CountsAs (text : List ℕ) (i more_open more_closed : ℕ) : Type 0 where
  pub opens : opened text (i + 1) ≡ opened text i + more_open
  pub closes : closed text (i + 1) ≡ closed text i + more_closed

pub counts_open : (text : List ℕ) (i : ℕ) → i < length text → get_or text i 0 ≡ 40 → CountsAs text i 1 0
counts_open text i within is = record {
  opens = count_by_more_yes (λ (b : ℕ). eqb b 40) text i 0 within (eq-eqb _ 40 is);
  closes = count_by_more_no (λ (b : ℕ). eqb b 41) text i 0 within (ap (λ (b : ℕ). eqb b 41) is) ∙ omega arith;
}

pub counts_close : (text : List ℕ) (i : ℕ) → i < length text → get_or text i 0 ≡ 41 → CountsAs text i 0 1
counts_close text i within is = record {
  opens = count_by_more_no (λ (b : ℕ). eqb b 40) text i 0 within (ap (λ (b : ℕ). eqb b 40) is) ∙ omega arith;
  closes = count_by_more_yes (λ (b : ℕ). eqb b 41) text i 0 within (eq-eqb _ 41 is);
}

pub counts_other : (text : List ℕ) (i : ℕ) → i < length text → eqb (get_or text i 0) 40 ≡ false → eqb (get_or text i 0) 41 ≡ false → CountsAs text i 0 0
counts_other text i within no_open no_close = record {
  opens = count_by_more_no (λ (b : ℕ). eqb b 40) text i 0 within no_open ∙ omega arith;
  closes = count_by_more_no (λ (b : ℕ). eqb b 41) text i 0 within no_close ∙ omega arith;
}

-- what begins at a place: a stray byte; a bracket; an operand or nothing
pub data Place (query text : List ℕ) (i : ℕ) : Type 0 where
  strays : stray_at query text i ≡ true → tokens_at query text i ≡ stray ∷ [] → Place query text i
  opens : (sign : Sign) → stray_at query text i ≡ false → get_or text i 0 ≡ 40 → CountsAs text i 1 0 → tokens_at query text i ≡ opening sign ∷ [] → Place query text i
  closes : stray_at query text i ≡ false → get_or text i 0 ≡ 41 → CountsAs text i 0 1 → tokens_at query text i ≡ closing ∷ [] → Place query text i
  operands : (sign : Sign) (operand : Operand) → stray_at query text i ≡ false → CountsAs text i 0 0 → tokens_at query text i ≡ single sign operand ∷ [] → Place query text i
  nothing : stray_at query text i ≡ false → CountsAs text i 0 0 → tokens_at query text i ≡ [] → Place query text i

module _ (query text : List ℕ) (i : ℕ) (within : i < length text) where
  byte : ℕ
  byte = get_or text i 0

  behind_quotes : stray_at query text i ≡ false → eqb byte 34 ≡ false → Place query text i
  unfolding byte tokens_at
  behind_quotes fine no_quote =
      ⊎_elim
      (λ (open_is : eqb byte 40 ≡ true).
      let is = eqb-true _ 40 open_is in
      opens (sign_of (get_or text (i - 1) 0)) fine is (counts_open text i within is) (rw (fine, no_quote, open_is) refl))
      (λ (no_open : eqb byte 40 ≡ false).
      ⊎_elim
      (λ (close_is : eqb byte 41 ≡ true).
      let is = eqb-true _ 41 close_is in
      closes fine is (counts_close text i within is) (rw (fine, no_quote, no_open, close_is) refl))
      (λ (no_close : eqb byte 41 ≡ false).
      let counts = counts_other text i within no_open no_close in
      ⊎_elim
      (λ (start : starts (in_word text) i ≡ true).
      operands (sign_of (get_or text (i - 1) 0)) (word_operand text (run_at (in_word text) (length text) i)) fine counts
      (rw (fine, no_quote, no_open, no_close, start) refl))
      (λ (no_start : starts (in_word text) i ≡ false). nothing fine counts (rw (fine, no_quote, no_open, no_close, no_start) refl))
      (cases_Bool (starts (in_word text) i)))
      (cases_Bool (eqb byte 41)))
      (cases_Bool (eqb byte 40))

  pub place_of : Place query text i
  unfolding byte tokens_at
  place_of =
      ⊎_elim
      (λ (fault : stray_at query text i ≡ true). strays fault (rw fault refl))
      (λ (fine : stray_at query text i ≡ false).
      ⊎_elim
      (λ (quote : eqb byte 34 ≡ true).
      let is = eqb-true _ 34 quote in
      operands (sign_of (get_or text (i - 1) 0)) (quoted query i (closing_quote query i)) fine
      (counts_other text i within (ap (λ (b : ℕ). eqb b 40) is) (ap (λ (b : ℕ). eqb b 41) is))
      (rw (fine, quote) refl))
      (λ (no_quote : eqb byte 34 ≡ false). behind_quotes fine no_quote)
      (cases_Bool (eqb byte 34)))
      (cases_Bool (stray_at query text i))
