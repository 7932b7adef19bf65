-- Walks over ascending ids.
use Rattle.std.proofs.Common.{◌≡◌, ◌++◌, filter, cond, append-nil, suc, zero, length, take, drop, get_or, ℕ, ◌+◌, ◌<◌, ◌≤◌, Bool, true, false, ◌||◌, List, [], ◌∷◌, nat_eq, refl, sym, ap, subst, ◌∙◌, add-one, arith, Result, Ok, Err}
use Rattle.std.proofs.lemmas.Bool.{false≢true}
use Rattle.std.specs.List.Sorted.{IsBinarySearchResult}
use Rattle.std.specs.Ordering.{nat_cmp}
use Rattle.std.specs.Result.{MatchResult}
use Rattle.std.specs.Cmp.{nat_eq_equiv}
use Rattle.std.proofs.lemmas.List.Sorted.{searched}
use Rattle.std.proofs.lemmas.List.{take-append-drop, get_or-take, get_or-drop, length-take-le}
use Rattle.std.proofs.lemmas.List.Folds.{list_any-append}
use Rattle.std.proofs.lemmas.List.Elements.{filter_more}
use Rattle.fts_ids.specs.Ids.{has, AscendFrom, PassesBelow}
use Rattle.fts_ids.proofs.Ascending.{has_below, at_least, below_at, at_most, AscendFrom-take}

AscendFrom-drop : (n : ℕ) (xs : List ℕ) (k : ℕ) → AscendFrom n xs → AscendFrom 0 (drop k xs)
AscendFrom-drop n [] zero up = tt
AscendFrom-drop n [] (suc k) up = tt
AscendFrom-drop n (x ∷ xs) zero up = (omega arith, up.1)
AscendFrom-drop n (x ∷ xs) (suc k) up = AscendFrom-drop (x + 1) xs k up.1

unless : (b : Bool) → (b ≡ true → ⊥) → b ≡ false
unless true no_way = absurd (no_way refl)
unless false no_way = refl

-- a front whose ids are below one can be passed
pub passes : (xs : List ℕ) (k id : ℕ) → AscendFrom 0 xs → ((q : ℕ) → has (take k xs) q ≡ true → q < id) → PassesBelow id xs (drop k xs)
passes xs k id up below = record {
  ascend = AscendFrom-drop 0 xs k up;
  kept = λ later le.
      let gone : has (take k xs) later ≡ false = unless (has (take k xs) later) (λ h. let less = below later h in omega (arith, less, le)) in
      ap (λ b. b || has (drop k xs) later) (sym gone)
      ∙ sym (list_any-append (nat_eq later) (take k xs) (drop k xs))
      ∙ ap (λ ys. has ys later) (take-append-drop k xs);
}

-- up to one that is no larger
pub passes_to : (xs : List ℕ) (k id : ℕ) → AscendFrom 0 xs → k < length xs → get_or xs k 0 ≤ id → PassesBelow id xs (drop k xs)
passes_to xs k id up lt le = passes xs k id up (λ q h. omega (arith, below_at 0 xs k q up lt h, le))

-- all that are below
pub passes_all : (xs : List ℕ) (k id : ℕ) → AscendFrom 0 xs → k ≤ length xs → ((j : ℕ) → j < k → get_or xs j 0 < id) → PassesBelow id xs (drop k xs)
passes_all xs zero id up lt less = passes xs zero id up (λ q h. absurd (false≢true h))
passes_all xs (suc k) id up lt less =
    passes xs (suc k) id up (λ q h. omega (arith, at_most xs k q up (omega (arith, lt)) (ap (λ n. has (take n xs) q) (add-one k) ∙ h), less k (omega arith)))

pub passes_more : (id : ℕ) (xs ys zs : List ℕ) → PassesBelow id xs ys → PassesBelow id ys zs → PassesBelow id xs zs
passes_more id xs ys zs p q = record { ascend = q.ascend; kept = λ later le. q.kept later le ∙ p.kept later le }

-- where the first is no smaller, it alone tells
pub first_tells : (id x : ℕ) (xs : List ℕ) → AscendFrom 0 (x ∷ xs) → id ≤ x → nat_eq id x ≡ has (x ∷ xs) id
first_tells id x xs up le =
    sym (ap (λ b. nat_eq id x || b) (has_below (x + 1) id xs up.1 (omega (arith, le))) ∙ or_false (nat_eq id x))
  where
    or_false : (b : Bool) → (b || false) ≡ b
    or_false true = refl
    or_false false = refl

-- the same of a list by its first id
pub tells : (id : ℕ) (ys : List ℕ) → 0 < length ys → AscendFrom 0 ys → id ≤ get_or ys 0 0 → nat_eq (get_or ys 0 0) id ≡ has ys id
tells id [] some up le = absurd (omega (arith, some))
tells id (x ∷ xs) some up le = nat_eq_equiv.symm x id ∙ first_tells id x xs up le

non_decreasing : (n : ℕ) (xs : List ℕ) → AscendFrom n xs → (i j : ℕ) → i ≤ j → j < length xs → get_or xs i 0 ≤ get_or xs j 0
non_decreasing n [] up i j le lt = absurd (omega (arith, lt))
non_decreasing n (x ∷ xs) up zero zero le lt = omega arith
non_decreasing n (x ∷ xs) up zero (suc j) le lt = omega (arith, at_least (x + 1) xs j up.1 (omega (arith, lt)))
non_decreasing n (x ∷ xs) up (suc i) zero le lt = absurd (omega (arith, le))
non_decreasing n (x ∷ xs) up (suc i) (suc j) le lt = non_decreasing (x + 1) xs up.1 i j (omega (arith, le)) (omega (arith, lt))

-- a search in ascending ids, as the library tells it
pub found_at : (xs : List ℕ) (id : ℕ) (r : Result ℕ ℕ) → AscendFrom 0 xs → IsBinarySearchResult (λ y. nat_cmp y id) xs r
    → MatchResult r (λ i. (i < length xs) × (get_or xs i 0 ≡ id)) (λ i. (i ≤ length xs) × ((k : ℕ) → k < i → get_or xs k 0 < id) × ((k : ℕ) → i ≤ k → k < length xs → id < get_or xs k 0))
found_at xs id r up h = searched xs id r h (non_decreasing 0 xs up)

-- what a search in a front of the ids finds can be passed to
pub passes_found : (xs : List ℕ) (m id i : ℕ) → AscendFrom 0 xs → m ≤ length xs → IsBinarySearchResult (λ y. nat_cmp y id) (take m xs) (Ok i) → PassesBelow id xs (drop i xs)
passes_found xs m id i up le h =
    let found : (i < length (take m xs)) × (get_or (take m xs) i 0 ≡ id) = found_at (take m xs) id (Ok i) (AscendFrom-take 0 xs m up) h in
    let inside : i < m = omega (arith, found.0, length-take-le m xs le) in
    passes_to xs i id up (omega (arith, inside, le)) (omega (arith, found.1, get_or-take m xs i 0 inside))

pub passes_missed : (xs : List ℕ) (m id i : ℕ) → AscendFrom 0 xs → m ≤ length xs → IsBinarySearchResult (λ y. nat_cmp y id) (take m xs) (Err i) → PassesBelow id xs (drop i xs)
passes_missed xs m id i up le h =
    let missed = found_at (take m xs) id (Err i) (AscendFrom-take 0 xs m up) h in
    let long : length (take m xs) ≡ m = length-take-le m xs le in
    passes_all xs i id up (omega (arith, missed.0, long, le))
    (λ j lt. let inside : j < m = omega (arith, missed.0, long, lt) in subst (λ n. n < id) (get_or-take m xs j 0 inside) (missed.1 j lt))

first_behind : (xs : List ℕ) (k : ℕ) → get_or (drop k xs) 0 0 ≡ get_or xs k 0
first_behind xs k = let none : k + 0 ≡ k = omega arith in get_or-drop k xs 0 0 ∙ ap (λ n. get_or xs n 0) none

pub passes_split : (xs far : List ℕ) (k id : ℕ) → AscendFrom 0 xs → k < length xs → far ≡ drop k xs → get_or far 0 0 < id → PassesBelow id xs far
passes_split xs far k id up lt e less =
    let first : get_or far 0 0 ≡ get_or xs k 0 = ap (λ ys. get_or ys 0 0) e ∙ first_behind xs k in
    subst (λ ys. PassesBelow id xs ys) (sym e) (passes_to xs k id up lt (omega (arith, first, less)))

-- the same, where the search was in a part and gave a result
pub passes_found_in : (xs close : List ℕ) (m id i place : ℕ) (r : Result ℕ ℕ) → AscendFrom 0 xs → m ≤ length xs → close ≡ take m xs
    → IsBinarySearchResult (λ y. nat_cmp y id) close r → r ≡ Ok i → place ≡ i → PassesBelow id xs (drop place xs)
passes_found_in xs close m id i place r up le part h is same =
    subst (λ k. PassesBelow id xs (drop k xs)) (sym same)
    (passes_found xs m id i up le (subst (λ ys. IsBinarySearchResult (λ y. nat_cmp y id) ys (Ok i)) part (subst (λ o. IsBinarySearchResult (λ y. nat_cmp y id) close o) is h)))

pub passes_missed_in : (xs close : List ℕ) (m id i place : ℕ) (r : Result ℕ ℕ) → AscendFrom 0 xs → m ≤ length xs → close ≡ take m xs
    → IsBinarySearchResult (λ y. nat_cmp y id) close r → r ≡ Err i → place ≡ i → PassesBelow id xs (drop place xs)
passes_missed_in xs close m id i place r up le part h is same =
    subst (λ k. PassesBelow id xs (drop k xs)) (sym same)
    (passes_missed xs m id i up le (subst (λ ys. IsBinarySearchResult (λ y. nat_cmp y id) ys (Err i)) part (subst (λ o. IsBinarySearchResult (λ y. nat_cmp y id) close o) is h)))

-- an id that ascends from others is one of those that later ones are above
pub at_rises : (xs : List ℕ) (i k : ℕ) → AscendFrom 0 xs → i ≤ k → k < length xs → get_or xs i 0 ≤ get_or xs k 0
at_rises xs i k up le lt = non_decreasing 0 xs up i k le lt

-- ---- a walk beside ids

-- the walk tells of the ids from a place on whether they are among those taken
abbrev pub Tells : List ℕ → List ℕ → List ℕ → ℕ → Type 0
Tells walk taken xs at = (k : ℕ) → at ≤ k → k < length xs → has walk (get_or xs k 0) ≡ has taken (get_or xs k 0)

pub tells_here : (walk taken xs : List ℕ) (at x : ℕ) → Tells walk taken xs at → at < length xs → x ≡ get_or xs at 0 → has walk x ≡ has taken x
tells_here walk taken xs at x tells lt e = subst (λ y. has walk y ≡ has taken y) (sym e) (tells at (omega arith) lt)

pub tells_on : (walk walk' taken xs : List ℕ) (at x : ℕ) → AscendFrom 0 xs → Tells walk taken xs at → x ≡ get_or xs at 0
    → ((later : ℕ) → x ≤ later → has walk' later ≡ has walk later) → Tells walk' taken xs (at + 1)
tells_on walk walk' taken xs at x up tells e later k le lt =
    later (get_or xs k 0) (omega (arith, e, at_rises xs at k up (omega (arith, le)) lt)) ∙ tells k (omega (arith, le)) lt

-- ---- what a walk chooses

chosen_step : (p : ℕ → Bool) (xs : List ℕ) (i : ℕ) (b : Bool) → i < length xs → p (get_or xs i 0) ≡ b → filter p (take (i + 1) xs) ≡ filter p (take i xs) ++ cond b (get_or xs i 0 ∷ []) []
chosen_step p xs i b lt e = filter_more p xs i 0 lt ∙ ap (λ (c : Bool). filter p (take i xs) ++ cond c (get_or xs i 0 ∷ []) []) e

pub chosen_yes : (p : ℕ → Bool) (xs found more : List ℕ) (i : ℕ) → i < length xs → p (get_or xs i 0) ≡ true → found ≡ filter p (take i xs) → more ≡ found ++ get_or xs i 0 ∷ [] → more ≡ filter p (take (i + 1) xs)
chosen_yes p xs found more i lt passes e added = added ∙ ap (λ (ys : List ℕ). ys ++ get_or xs i 0 ∷ []) e ∙ sym (chosen_step p xs i true lt passes)

pub chosen_no : (p : ℕ → Bool) (xs found : List ℕ) (i : ℕ) → i < length xs → p (get_or xs i 0) ≡ false → found ≡ filter p (take i xs) → found ≡ filter p (take (i + 1) xs)
chosen_no p xs found i lt fails e = e ∙ sym (append-nil (filter p (take i xs))) ∙ sym (chosen_step p xs i false lt fails)
