-- Ascending lists of ids, as sets.
use Rattle.std.proofs.Common.{◌≡◌, zero, suc, length, take, get_or, ℕ, ◌+◌, ◌<◌, ◌≤◌, Bool, true, false, cond, ◌&&◌, ◌||◌, List, [], ◌∷◌, ◌++◌, nat_eq, refl, sym, ap, subst, ◌∙◌, arith, inl, inr, ◌⊎◌, ⊎_elim}
use Rattle.std.specs.List.{filter}
use Rattle.std.proofs.lemmas.Bool.{cases_lt, false≢true, eqb-true, ne_eqb, eq-eqb}
use Rattle.std.proofs.lemmas.List.{take_more}
use Rattle.std.proofs.lemmas.List.Folds.{list_any-append}
use Rattle.std.proofs.lemmas.Map.Views.{any-filter_same}
use Rattle.fts_ids.specs.Ids.{has, AscendFrom}

pub AscendFrom-sooner : (n m : ℕ) (xs : List ℕ) → AscendFrom n xs → m ≤ n → AscendFrom m xs
AscendFrom-sooner n m [] f le = tt
AscendFrom-sooner n m (x ∷ xs) f le = (omega (arith, f.0), f.1)

pub has_below : (n q : ℕ) (xs : List ℕ) → AscendFrom n xs → q < n → has xs q ≡ false
has_below n q [] f lt = refl
has_below n q (x ∷ xs) f lt =
    let apart : nat_eq q x ≡ false = ne_eqb q x (λ e. omega (arith, f.0)) in
    rw apart (has_below (x + 1) q xs f.1 (omega (arith, f.0)))

-- two sets with the same ids are the same list
pub same_ids : (n m : ℕ) (xs ys : List ℕ) → AscendFrom n xs → AscendFrom m ys → ((q : ℕ) → has xs q ≡ has ys q) → xs ≡ ys
same_ids n m [] [] f g same = refl
same_ids n m [] (y ∷ ys) f g same = absurd (false≢true (same y ∙ ap (λ b. b || has ys y) (eq-eqb y y refl)))
same_ids n m (x ∷ xs) [] f g same = absurd (false≢true (sym (same x) ∙ ap (λ b. b || has xs x) (eq-eqb x x refl)))
same_ids n m (x ∷ xs) (y ∷ ys) f g same =
    let xx : has (x ∷ xs) x ≡ true = ap (λ b. b || has xs x) (eq-eqb x x refl) in
    let yy : has (y ∷ ys) y ≡ true = ap (λ b. b || has ys y) (eq-eqb y y refl) in
    let e : x ≡ y =
    ⊎_elim
    (λ lt. absurd (false≢true (sym (has_below y x (y ∷ ys) (omega arith, g.1) lt) ∙ sym (same x) ∙ xx)))
    (λ ge. ⊎_elim
    (λ lt. absurd (false≢true (sym (has_below x y (x ∷ xs) (omega arith, f.1) lt) ∙ same y ∙ yy)))
    (λ le. omega (arith, ge, le))
    (cases_lt y x))
    (cases_lt x y) in
    let rest : AscendFrom (x + 1) ys = subst (λ z. AscendFrom (z + 1) ys) (sym e) g.1 in
    let tails : (q : ℕ) → has xs q ≡ has ys q =
    λ q. ⊎_elim
    (λ lt. has_below (x + 1) q xs f.1 (omega (arith, lt)) ∙ sym (has_below (x + 1) q ys rest (omega (arith, lt))))
    (λ ge. ⊎_elim
    (λ le. has_below (x + 1) q xs f.1 (omega (arith, le)) ∙ sym (has_below (x + 1) q ys rest (omega (arith, le))))
    (λ gt. let apart : nat_eq q x ≡ false = ne_eqb q x (λ i. omega (arith, i, gt)) in
    let other : nat_eq q y ≡ false = ne_eqb q y (λ i. omega (arith, i, e, gt)) in
    sym (ap (λ b. b || has xs q) apart) ∙ same q ∙ ap (λ b. b || has ys q) other)
    (cases_lt q (x + 1)))
    (cases_lt q x) in
    ap (λ z. z ∷ xs) e ∙ ap (λ zs. y ∷ zs) (same_ids (x + 1) (x + 1) xs ys f.1 rest tails)

pub AscendFrom-filter : (p : ℕ → Bool) (n : ℕ) (ids : List ℕ) → AscendFrom n ids → AscendFrom n (filter p ids)
AscendFrom-filter p n [] f = tt
AscendFrom-filter p n (x ∷ xs) f =
    let rest : AscendFrom (x + 1) (filter p xs) = AscendFrom-filter p (x + 1) xs f.1 in
    let keep : Bool → Type 0 = λ b. AscendFrom n (cond b (x ∷ filter p xs) (filter p xs)) in
    elim (p x) as keep [ true ↦ (f.0, rest) | false ↦ AscendFrom-sooner (x + 1) n (filter p xs) rest (omega (arith, f.0)) ]

-- the ids that a filter leaves, where its test tells ids alone apart
pub has-filter : (test : ℕ → Bool) (ids : List ℕ) (q : ℕ) → has (filter test ids) q ≡ (test q && has ids q)
has-filter test ids q =
    any-filter_same (nat_eq q) test (test q) (λ k e. ap test (sym (eqb-true q k e))) ids

or_right : (a b : Bool) → b ≡ true → (a || b) ≡ true
or_right true b e = refl
or_right false b e = e

-- one more at the end, above all
pub AscendFrom-push : (n : ℕ) (xs : List ℕ) (x : ℕ) → AscendFrom n xs → ((q : ℕ) → has xs q ≡ true → q < x) → n ≤ x → AscendFrom n (xs ++ x ∷ [])
AscendFrom-push n [] x f below le = (le, tt)
AscendFrom-push n (y ∷ ys) x f below le =
    let less : y < x = below y (ap (λ (b : Bool). b || has ys y) (eq-eqb y y refl)) in
    (f.0, AscendFrom-push (y + 1) ys x f.1 (λ q there. below q (or_right (nat_eq q y) (has ys q) there)) (omega (arith, less)))

-- and ids behind all
pub AscendFrom-join : (n : ℕ) (xs ys : List ℕ) → AscendFrom n xs → AscendFrom n ys → ((q : ℕ) → has xs q ≡ true → AscendFrom (q + 1) ys) → AscendFrom n (xs ++ ys)
AscendFrom-join n [] ys f g above = g
AscendFrom-join n (x ∷ xs) ys f g above =
    (f.0, AscendFrom-join (x + 1) xs ys f.1 (above x (ap (λ (b : Bool). b || has xs x) (eq-eqb x x refl))) (λ q there. above q (or_right (nat_eq q x) (has xs q) there)))

-- ---- ids at a place

-- the two ways in which one of two tests holds
pub one_of : (a b : Bool) → (a || b) ≡ true → (a ≡ true) ⊎ (b ≡ true)
one_of true b e = inl refl
one_of false b e = inr e

pub at_least : (n : ℕ) (xs : List ℕ) (k : ℕ) → AscendFrom n xs → k < length xs → n ≤ get_or xs k 0
at_least n [] k up lt = absurd (omega (arith, lt))
at_least n (x ∷ xs) zero up lt = up.0
at_least n (x ∷ xs) (suc k) up lt = omega (arith, up.0, at_least (x + 1) xs k up.1 (omega (arith, lt)))

-- those before a place are below the one there
pub below_at : (n : ℕ) (xs : List ℕ) (k : ℕ) (id : ℕ) → AscendFrom n xs → k < length xs → has (take k xs) id ≡ true → id < get_or xs k 0
below_at n [] k id up lt h = absurd (omega (arith, lt))
below_at n (x ∷ xs) zero id up lt h = absurd (false≢true h)
below_at n (x ∷ xs) (suc k) id up lt h =
    let here : k < length xs = omega (arith, lt) in
    ⊎_elim
    (λ e. let same : id ≡ x = eqb-true id x e in omega (arith, same, at_least (x + 1) xs k up.1 here))
    (λ later. below_at (x + 1) xs k id up.1 here later)
    (one_of (nat_eq id x) (has (take k xs) id) h)

pub has-more : (xs : List ℕ) (k : ℕ) (id : ℕ) → k < length xs → has (take (k + 1) xs) id ≡ (has (take k xs) id || (nat_eq id (get_or xs k 0) || false))
has-more xs k id lt = ap (λ ys. has ys id) (take_more xs k 0 lt) ∙ list_any-append (nat_eq id) (take k xs) (get_or xs k 0 ∷ [])

pub AscendFrom-take : (n : ℕ) (xs : List ℕ) (k : ℕ) → AscendFrom n xs → AscendFrom n (take k xs)
AscendFrom-take n xs zero up = tt
AscendFrom-take n [] (suc k) up = tt
AscendFrom-take n (x ∷ xs) (suc k) up = (up.0, AscendFrom-take (x + 1) xs k up.1)

pub at_most : (xs : List ℕ) (k : ℕ) (id : ℕ) → AscendFrom 0 xs → k < length xs → has (take (k + 1) xs) id ≡ true → id ≤ get_or xs k 0
at_most xs k id up lt h =
    ⊎_elim
    (λ before. omega (arith, below_at 0 xs k id up lt before))
    (λ here. ⊎_elim (λ e. omega (arith, eqb-true id (get_or xs k 0) e)) (λ e. absurd (false≢true e)) (one_of (nat_eq id (get_or xs k 0)) false here))
    (one_of (has (take k xs) id) (nat_eq id (get_or xs k 0) || false) (sym (has-more xs k id lt) ∙ h))
