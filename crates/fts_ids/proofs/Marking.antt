-- Ids as marks.
use Rattle.std.proofs.Common.{◌≡◌, ◌≢◌, ℕ, zero, suc, ◌+◌, ◌-◌, ◌<◌, ◌≤◌, Bool, true, false, ◌&&◌, ◌||◌, List, [], ◌∷◌, ◌++◌, length, take, set, get_or, nat_eq, refl, sym, ap, subst, ◌∙◌, ⊎_elim, arith}
use Rattle.std.specs.List.{list_any}
use Rattle.std.proofs.lemmas.Bool.{cases_eq, false≢true, eq-eqb, ne_eqb}
use Rattle.std.proofs.lemmas.List.{take_all, take_more, length-take-le, get_or-set_other}
use Rattle.std.proofs.lemmas.List.Folds.{list_any-append, list_any_at}
use Rattle.std.proofs.lemmas.Grind.{get_or-set_at}
use Rattle.fts_ids.specs.Ids.{has, AscendFrom}
use Rattle.fts_ids.specs.Marks.{is_marked}
use Rattle.fts_ids.proofs.Ascending.{at_most, AscendFrom-push, has-more}

or_false : (a : Bool) → a ≡ (a || false)
or_false true = refl
or_false false = refl

or_assoc : (a b c : Bool) → ((a || b) || c) ≡ (a || (b || c))
or_assoc true b c = refl
or_assoc false b c = refl

and_false : (a : Bool) → (a && false) ≡ false
and_false true = refl
and_false false = refl

-- no id is above the last of ids that ascend
pub last_most : (xs : List ℕ) (id : ℕ) → AscendFrom 0 xs → has xs id ≡ true → id ≤ get_or xs (length xs - 1) 0
last_most [] id up h = absurd (false≢true h)
last_most (x ∷ xs) id up h =
    let whole : take (length xs + 1) (x ∷ xs) ≡ x ∷ xs = take_all (length xs + 1) (x ∷ xs) (omega arith) in
    let last : length (x ∷ xs) - 1 ≡ length xs = omega arith in
    subst (λ k. id ≤ get_or (x ∷ xs) k 0) (sym last)
    (at_most (x ∷ xs) (length xs) id up (omega arith) (ap (λ ys. has ys id) whole ∙ h))

eq_suc : (a b : ℕ) → nat_eq (suc a) (suc b) ≡ nat_eq a b
eq_suc a b =
    ⊎_elim
    (λ (same : a ≡ b). eq-eqb (suc a) (suc b) (ap suc same) ∙ sym (eq-eqb a b same))
    (λ (other : a ≡ b → ⊥). ne_eqb (suc a) (suc b) (λ e. other (omega (arith, e))) ∙ sym (ne_eqb a b other))
    (cases_eq a b)

-- one mark more
marked_end : (front : List Bool) (m : Bool) (id : ℕ) → is_marked (front ++ m ∷ []) id ≡ (is_marked front id || (nat_eq id (length front) && m))
marked_end [] m zero = refl
marked_end [] m (suc id) = ap (λ b. false || (b && m)) (sym (ne_eqb (suc id) 0 (λ e. omega (arith, e))))
marked_end (f ∷ fs) m zero = or_false f ∙ ap (λ b. f || (b && m)) (sym (ne_eqb 0 (length (f ∷ fs)) (λ e. omega (arith, e))))
marked_end (f ∷ fs) m (suc id) = marked_end fs m id ∙ ap (λ b. is_marked fs id || (b && m)) (sym (eq_suc id (length fs)))

marked_next : (marks : List Bool) (n id : ℕ) → n < length marks → is_marked (take (n + 1) marks) id ≡ (is_marked (take n marks) id || (nat_eq id n && get_or marks n false))
marked_next marks n id lt =
    let long : length (take n marks) ≡ n = length-take-le n marks (omega (arith, lt)) in
    ap (λ ms. is_marked ms id) (take_more marks n false lt)
    ∙ marked_end (take n marks) (get_or marks n false) id
    ∙ ap (λ k. is_marked (take n marks) id || (nat_eq id k && get_or marks n false)) long

-- a place that is marked is an id more
pub marked_yes : (marks : List Bool) (ids more : List ℕ) (n : ℕ) → n < length marks → get_or marks n false ≡ true → more ≡ ids ++ n ∷ []
    → ((id : ℕ) → has ids id ≡ is_marked (take n marks) id) → (id : ℕ) → has more id ≡ is_marked (take (n + 1) marks) id
marked_yes marks ids more n lt is pushed same id =
    ap (λ xs. has xs id) pushed
    ∙ list_any-append (nat_eq id) ids (n ∷ [])
    ∙ ap (λ b. b || (nat_eq id n || false)) (same id)
    ∙ ap (λ b. is_marked (take n marks) id || b) (sym (or_false (nat_eq id n)) ∙ and_true (nat_eq id n))
    ∙ ap (λ b. is_marked (take n marks) id || (nat_eq id n && b)) (sym is)
    ∙ sym (marked_next marks n id lt)
  where
    and_true : (a : Bool) → a ≡ (a && true)
    and_true true = refl
    and_true false = refl

-- and one that is not adds none
pub marked_no : (marks : List Bool) (ids : List ℕ) (n : ℕ) → n < length marks → get_or marks n false ≡ false
    → ((id : ℕ) → has ids id ≡ is_marked (take n marks) id) → (id : ℕ) → has ids id ≡ is_marked (take (n + 1) marks) id
marked_no marks ids n lt is same id =
    same id ∙ or_false (is_marked (take n marks) id)
    ∙ ap (λ b. is_marked (take n marks) id || b) (sym (and_false (nat_eq id n)))
    ∙ ap (λ b. is_marked (take n marks) id || (nat_eq id n && b)) (sym is)
    ∙ sym (marked_next marks n id lt)

-- what is marked before a place is below it
marked_below : (n : ℕ) (marks : List Bool) (id : ℕ) → is_marked (take n marks) id ≡ true → id < n
marked_below zero marks id h = absurd (false≢true h)
marked_below (suc n) [] id h = absurd (false≢true h)
marked_below (suc n) (m ∷ ms) zero h = omega arith
marked_below (suc n) (m ∷ ms) (suc id) h = omega (arith, marked_below n ms id h)

pub marked_ascends : (marks : List Bool) (ids more : List ℕ) (n : ℕ) → AscendFrom 0 ids → more ≡ ids ++ n ∷ [] → ((id : ℕ) → has ids id ≡ is_marked (take n marks) id) → AscendFrom 0 more
marked_ascends marks ids more n up pushed same =
    subst (AscendFrom 0) (sym pushed) (AscendFrom-push 0 ids n up (λ id there. marked_below n marks id (sym (same id) ∙ there)) (omega arith))

-- one id is marked
set_marked : (marks : List Bool) (k id : ℕ) → k < length marks → is_marked (set marks k true) id ≡ (is_marked marks id || nat_eq id k)
set_marked marks k id lt =
    ⊎_elim
    (λ (same : id ≡ k). get_or-set_at marks k id true false same lt ∙ sym (or_true (is_marked marks id)) ∙ ap (λ b. is_marked marks id || b) (sym (eq-eqb id k same)))
    (λ (other : id ≡ k → ⊥). get_or-set_other marks k id true false other ∙ or_false (is_marked marks id) ∙ ap (λ b. is_marked marks id || b) (sym (ne_eqb id k other)))
    (cases_eq id k)
  where
    or_true : (a : Bool) → (a || true) ≡ true
    or_true true = refl
    or_true false = refl

pub marks_one : (first marks : List Bool) (ids : List ℕ) (k id : ℕ) → k < length ids → get_or ids k 0 < length marks
    → is_marked marks id ≡ (is_marked first id || has (take k ids) id)
    → is_marked (set marks (get_or ids k 0) true) id ≡ (is_marked first id || has (take (k + 1) ids) id)
marks_one first marks ids k id lt within same =
    let x = get_or ids k 0 in
    set_marked marks x id within
    ∙ ap (λ b. b || nat_eq id x) same
    ∙ or_assoc (is_marked first id) (has (take k ids) id) (nat_eq id x)
    ∙ ap (λ b. is_marked first id || (has (take k ids) id || b)) (or_false (nat_eq id x))
    ∙ ap (λ b. is_marked first id || b) (sym (has-more ids k id lt))

-- an id of a list is among its ids
pub has_at : (ids : List ℕ) (k : ℕ) → k < length ids → has ids (get_or ids k 0) ≡ true
has_at ids k lt = list_any_at (nat_eq (get_or ids k 0)) ids k 0 lt (eq-eqb (get_or ids k 0) (get_or ids k 0) refl)
