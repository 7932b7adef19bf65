-- What stands behind a closing quote: where it is the tail of a distance.
use Rattle.std.proofs.Common.{◌≡◌, ℕ, ◌+◌, ◌-◌, ◌<◌, ◌≤◌, true, false, eqb, leb, not, List, length, take, drop, get_or, None, Some, refl, sym, ap, ap₂, ◌∙◌, arith, eq-eqb, ⊎_elim}
use Rattle.std.specs.List.{prefix_len}
use Rattle.std.specs.Char.{is_ascii_digit}
use Rattle.std.proofs.lemmas.Bool.{cases_Bool, and_parts}
use Rattle.std.proofs.lemmas.Bool.Decides.{nat_tests}
use Rattle.fts_words.specs.Byte.{word_at}
use Rattle.fts_words.proofs.RunLemmas.{clash}
use Rattle.fts_meaning.specs.Distance.{decimal_value, blanks, digit_count, digits, tail_len, has_tail, distance_tail}

module _ (behind : List ℕ) where
  pub no_tail : (has_tail behind ≡ true → ⊥) → distance_tail behind ≡ None
  unfolding distance_tail
  no_tail never = ⊎_elim (λ (yes : has_tail behind ≡ true). absurd (never yes)) (λ (no : has_tail behind ≡ false). rw no refl) (cases_Bool (has_tail behind))

  record Parts : Type 0 where
    mark : eqb (get_or behind (blanks behind) 0) 64 ≡ true
    some : leb 1 (digit_count behind) ≡ true
    small : leb (decimal_value (digits behind)) 65535 ≡ true
    apart : not (word_at behind (tail_len behind)) ≡ true

  parts_of : has_tail behind ≡ true → Parts
  parts_of h =
      let a = and_parts (eqb (get_or behind (blanks behind) 0) 64) _ h in
      let b = and_parts (leb 1 (digit_count behind)) _ a.1 in
      let c = and_parts (leb (decimal_value (digits behind)) 65535) _ b.1 in
      record { mark = a.0; some = b.0; small = c.0; apart = c.1 }

  pub no_mark : (mark : ℕ) → mark ≡ blanks behind → (get_or behind mark 0 ≡ 64 → ⊥) → distance_tail behind ≡ None
  no_mark mark is never = no_tail (λ h. never (ap (λ (i : ℕ). get_or behind i 0) is ∙ Rattle.std.proofs.Common.eqb-true _ 64 (parts_of h).mark))

  pub no_digit : digit_count behind ≡ 0 → distance_tail behind ≡ None
  no_digit none = no_tail (λ h. let some = (parts_of h).some in clash (leb 1 (digit_count behind)) some (ap (leb 1) none))

  pub word_behind : word_at behind (tail_len behind) ≡ true → distance_tail behind ≡ None
  word_behind word = no_tail (λ h. clash (not (word_at behind (tail_len behind))) (parts_of h).apart (ap not word))

  pub too_large : 65535 < decimal_value (digits behind) → distance_tail behind ≡ None
  too_large large = no_tail (λ h. let small = (parts_of h).small in let above : leb (decimal_value (digits behind)) 65535 ≡ false = grind (arith, nat_tests) in clash _ small above)

  pub a_tail : (mark : ℕ) → mark ≡ blanks behind → get_or behind mark 0 ≡ 64 → (0 < digit_count behind) → decimal_value (digits behind) ≤ 65535 → word_at behind (tail_len behind) ≡ false → (len number : ℕ) → len ≡ tail_len behind → number ≡ decimal_value (digits behind) → distance_tail behind ≡ Some (record { len = len; number = number })
  unfolding distance_tail
  a_tail mark is at some small apart len number len_is number_is =
      let here : eqb (get_or behind (blanks behind) 0) 64 ≡ true = ap (λ (i : ℕ). eqb (get_or behind i 0) 64) (sym is) ∙ eq-eqb _ 64 at in
      let more : leb 1 (digit_count behind) ≡ true = grind (arith, nat_tests) in
      let few : leb (decimal_value (digits behind)) 65535 ≡ true = grind (arith, nat_tests) in
      rw (here, more, few, apart) (ap₂ (λ (l n : ℕ). Some (record { len = l; number = n })) (sym len_is) (sym number_is))

-- a slice to the end
pub cut : (i : ℕ) (xs : List ℕ) → take (length xs - i) (drop i xs) ≡ drop i xs
cut i xs = grind (arith, Rattle.std.proofs.lemmas.Grind.common_steps)

pub count_is : (behind : List ℕ) (mark count : ℕ) → mark ≡ blanks behind → count ≡ prefix_len is_ascii_digit (take (length behind - (mark + 1)) (drop (mark + 1) behind)) → count ≡ digit_count behind
count_is behind mark count is counted =
    counted ∙ ap (prefix_len is_ascii_digit) (cut (mark + 1) behind) ∙ ap (λ (m : ℕ). prefix_len is_ascii_digit (drop (m + 1) behind)) is

pub digits_are : (behind : List ℕ) (mark count : ℕ) → mark ≡ blanks behind → count ≡ digit_count behind → take count (take (length behind - (mark + 1)) (drop (mark + 1) behind)) ≡ digits behind
digits_are behind mark count is counted =
    ap₂ take counted (cut (mark + 1) behind) ∙ ap (λ (m : ℕ). take (digit_count behind) (drop (m + 1) behind)) is
