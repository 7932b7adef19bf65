-- Ids without a gap.
use Rattle.std.proofs.Common.{◌≡◌, ℕ, suc, ◌+◌, ◌-◌, ◌<◌, ◌≤◌, Bool, true, false, ◌&&◌, ◌||◌, List, [], ◌∷◌, length, get_or, nat_le, nat_eq, sym, ap, ap₂, ◌∙◌, arith, ⊎_elim}
use Rattle.std.proofs.lemmas.Bool.{false≢true, cases_lt, eq-eqb, eqb-true, leb-true, le-leb, and_parts, or_cases, or_right, or_left}
use Rattle.fts_ids.specs.Ids.{has, AscendFrom}
use Rattle.fts_index.proofs.Syncing.{same_truth}

-- ids that ascend rise by one at least
rises : (x : ℕ) (xs : List ℕ) (last : ℕ) → AscendFrom (x + 1) xs → last ≡ get_or (x ∷ xs) (length xs) 0 → x + length xs ≤ last
rises x [] last up is = omega (arith, is)
rises x (y ∷ ys) last up is = let later = rises y ys last up.1 is in let first = up.0 in omega (arith, later, first)

both_hold : (x id last : ℕ) → x ≤ id → id ≤ last → (nat_le x id && nat_le id last) ≡ true
both_hold x id last low high = ap₂ (λ (b c : Bool). b && c) (le-leb x id low) (le-leb id last high)

-- an id is among ids without a gap where it is between the first and the last
within : (x : ℕ) (xs : List ℕ) (last id : ℕ) → AscendFrom (x + 1) xs → last ≡ get_or (x ∷ xs) (length xs) 0 → last ≤ x + length xs → has (x ∷ xs) id ≡ (nat_le x id && nat_le id last)
within x [] last id up is few =
    same_truth (nat_eq id x || false) (nat_le x id && nat_le id last)
    (λ there. ⊎_elim (λ (e : nat_eq id x ≡ true). (let same : id ≡ x = eqb-true id x e in both_hold x id last (omega (arith, same)) (omega (arith, same, is))))
    (λ (e : false ≡ true). both_hold x id last (absurd (false_true e)) (absurd (false_true e))) (or_cases (nat_eq id x) false there))
    (λ there. (let both = and_parts (nat_le x id) (nat_le id last) there in let low = leb-true x id both.0 in let high = leb-true id last both.1 in
    or_left (nat_eq id x) false (eq-eqb id x (omega (arith, low, high, is)))))
  where
    false_true : false ≡ true → ⊥
    false_true e = (cc)
within x (y ∷ ys) last id up is few =
    let far = rises y ys last up.1 is in
    let above = up.0 in
    ap (λ (b : Bool). nat_eq id x || b) (within y ys last id up.1 is (omega (arith, few, above)))
    ∙ same_truth (nat_eq id x || (nat_le y id && nat_le id last)) (nat_le x id && nat_le id last)
    (λ there. ⊎_elim
    (λ (e : nat_eq id x ≡ true). (let same : id ≡ x = eqb-true id x e in both_hold x id last (omega (arith, same)) (omega (arith, same, far, above))))
    (λ (e : (nat_le y id && nat_le id last) ≡ true). (let both = and_parts (nat_le y id) (nat_le id last) e in let low = leb-true y id both.0 in let high = leb-true id last both.1 in
    both_hold x id last (omega (arith, low, above)) (omega (arith, high))))
    (or_cases (nat_eq id x) (nat_le y id && nat_le id last) there))
    (λ there. (let both = and_parts (nat_le x id) (nat_le id last) there in let low = leb-true x id both.0 in let high = leb-true id last both.1 in
    ⊎_elim
    (λ (more : x < id). or_right (nat_eq id x) (nat_le y id && nat_le id last) (both_hold y id last (omega (arith, more, few, far)) (omega (arith, high))))
    (λ (less : id ≤ x). or_left (nat_eq id x) (nat_le y id && nat_le id last) (eq-eqb id x (omega (arith, less, low))))
    (cases_lt x id)))

pub without_gap : (ids : List ℕ) (id : ℕ) → AscendFrom 0 ids → false ≡ nat_eq (length ids) 0 → get_or ids (length ids - 1) 0 - get_or ids 0 0 ≡ length ids - 1
    → (nat_le (get_or ids 0 0) id && nat_le id (get_or ids (length ids - 1) 0)) ≡ has ids id
without_gap [] id up some few = absurd (false≢true some)
without_gap (x ∷ xs) id up some few =
    let place : suc (length xs) - 1 ≡ length xs = omega arith in
    sym (within x xs (get_or (x ∷ xs) (suc (length xs) - 1) 0) id up.1 (ap (λ (n : ℕ). get_or (x ∷ xs) n 0) place) (omega (arith, few, place)))
