-- Ascending ids, searched and filtered in place.
use mir.Val.{bool_byte}
use Rattle.std.proofs.Common.{◌≡◌, ◌∙◌, set, suc, length, drop, get_or, ℕ, ◌+◌, ◌<◌, ◌≤◌, Bool, true, false, List, [], ◌∷◌, nat_eq, sym, ap, subst, ◌∙◌, arith, inl, inr, is_ok, Result, Ok, Err}
use Rattle.std.specs.List.Sorted.{IsStrictlyIncreasing}
use Rattle.std.proofs.lemmas.Bool.{cases_lt, ne_eqb, eq-eqb}
use Rattle.std.specs.List.Sorted.{IsBinarySearchResult}
use Rattle.std.specs.Ordering.{nat_cmp}
use Rattle.std.proofs.lemmas.List.{take-set, drop-set-lt, length-set, get_or-drop, get_or_default}
use Rattle.std.proofs.lemmas.List.Folds.{list_any_at, list_any_none}
use Rattle.std.proofs.lemmas.List.Filters.{FiltersInPlace, FiltersInPlace-more_no, FiltersInPlace-more_set}
use Rattle.fts_ids.specs.Ids.{has, AscendFrom}
use Rattle.fts_ids.proofs.Passing.{found_at}

pub found_is_has : (xs : List ℕ) (id : ℕ) (r : Result ℕ ℕ) → AscendFrom 0 xs → IsBinarySearchResult (λ y. nat_cmp y id) xs r → is_ok r ≡ has xs id
found_is_has xs id (Ok i) up h =
    let found : (i < length xs) × (get_or xs i 0 ≡ id) = found_at xs id (Ok i) up h in
    sym (list_any_at (nat_eq id) xs i 0 found.0 (eq-eqb id (get_or xs i 0) (sym found.1)))
found_is_has xs id (Err i) up h =
    let missed = found_at xs id (Err i) up h in
    sym (list_any_none (nat_eq id) xs (λ k d lt.
    ap (λ (w : ℕ). nat_eq id w) (get_or_default xs k d 0 lt)
    ∙ elim (cases_lt k i) [
      | inl below ↦ ne_eqb id (get_or xs k 0) (λ (e : id ≡ get_or xs k 0). omega (arith, missed.1 k below))
      | inr above ↦ ne_eqb id (get_or xs k 0) (λ (e : id ≡ get_or xs k 0). omega (arith, missed.2 k above lt))
    ]))

-- ---- as the library says it

one_more : (k : ℕ) → suc k + 1 ≡ suc (k + 1)
one_more k = omega arith

pub ascend_from_increasing : (n : ℕ) (xs : List ℕ) → IsStrictlyIncreasing xs → ((d : ℕ) → 0 < length xs → n ≤ get_or xs 0 0) → AscendFrom n xs
ascend_from_increasing n [] up low = tt
ascend_from_increasing n (x ∷ xs) up low = (
  low 0 (omega arith),
  ascend_from_increasing (x + 1) xs (λ k lt. subst (λ n. get_or (x ∷ xs) (suc k) 0 < get_or (x ∷ xs) n 0) (one_more k) (up (suc k) (omega (arith, lt)))) (λ d lt. omega (arith, up 0 (omega (arith, lt)))),
)

-- ---- taking out

pub same_at : (p : ℕ → Bool) (xs ys : List ℕ) (k at x : ℕ) → FiltersInPlace p xs ys k at → at < length xs → x ≡ get_or ys at x → x ≡ get_or xs at 0
same_at p xs ys k at x f lt e =
    let none : at + 0 ≡ at = omega arith in
    let first : (zs : List ℕ) → get_or (drop at zs) 0 x ≡ get_or zs at x = λ zs. get_or-drop at zs 0 x ∙ ap (λ n. get_or zs n x) none in
    e ∙ sym (first ys) ∙ ap (λ zs. get_or zs 0 x) f.rest ∙ first xs ∙ get_or_default xs at x 0 lt

-- an element is written to the next place, which stays the next one where it does not pass
pub written : (p : ℕ → Bool) (xs ys : List ℕ) (k at x : ℕ) (b : Bool) → FiltersInPlace p xs ys k at → at < length ys → p x ≡ b → x ≡ get_or ys at x
    → FiltersInPlace p xs (set ys k x) (k + bool_byte b) (at + 1)
written p xs ys k at x true f lt passes e = FiltersInPlace-more_set f lt passes e
written p xs ys k at x false f lt fails e =
    let stays : FiltersInPlace p xs ys k (at + 1) = FiltersInPlace-more_no f lt fails e in
    let less = f.behind in
    let same : k + 0 ≡ k = omega arith in
    subst (λ n. FiltersInPlace p xs (set ys k x) n (at + 1)) (sym same) (record {
      front = take-set ys k x ∙ stays.front;
      rest = drop-set-lt (at + 1) ys k x (omega (arith, less)) ∙ stays.rest;
      behind = stays.behind;
      within = stays.within;
      long = length-set ys k x ∙ stays.long;
    })
