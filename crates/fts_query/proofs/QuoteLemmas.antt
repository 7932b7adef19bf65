-- The quotes of a text, place by place.
use Rattle.std.proofs.Common.{◌≡◌, ℕ, suc, ◌+◌, ◌-◌, ◌<◌, ◌≤◌, true, false, eqb, List, [], ◌∷◌, length, get_or, refl, ap, ◌∙◌, arith, eq-eqb, ne_eqb}
use Rattle.std.specs.Prelude.{filter}
use Rattle.std.specs.List.{range_with_len}
use Rattle.fts_meaning.specs.Quote.{quote_at, quotes_from}

counted : (text : List ℕ) (i : ℕ) → i < length text → quotes_from text i ≡ filter (quote_at text) (range_with_len i (suc (length text - (i + 1))))
unfolding quotes_from
counted text i within =
    let same : length text - i ≡ suc (length text - (i + 1)) = omega arith in
    ap (λ (n : ℕ). filter (quote_at text) (range_with_len i n)) same

pub quote_here : (text : List ℕ) (i : ℕ) → i < length text → get_or text i 0 ≡ 34 → quotes_from text i ≡ i ∷ quotes_from text (i + 1)
unfolding quotes_from
quote_here text i within is = let here : eqb (get_or text i 0) 34 ≡ true = eq-eqb _ 34 is in counted text i within ∙ rw here refl

pub quote_not : (text : List ℕ) (i : ℕ) → i < length text → (get_or text i 0 ≡ 34 → ⊥) → quotes_from text i ≡ quotes_from text (i + 1)
unfolding quotes_from
quote_not text i within is_not = let here : eqb (get_or text i 0) 34 ≡ false = ne_eqb _ 34 is_not in counted text i within ∙ rw here refl

pub quote_end : (text : List ℕ) (i : ℕ) → length text ≤ i → quotes_from text i ≡ []
unfolding quotes_from
quote_end text i past =
    let same : length text - i ≡ 0 = omega arith in
    ap (λ (n : ℕ). filter (quote_at text) (range_with_len i n)) same
