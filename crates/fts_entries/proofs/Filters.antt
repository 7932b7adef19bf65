-- Filters by ids.
use Rattle.std.proofs.Common.{◌≡◌, Bool, true, false, cond, ◌&&◌, filter, List, [], ◌∷◌, ◌++◌, refl, sym, ap, ap₂, ◌∙◌}
use Rattle.std.proofs.lemmas.Bool.{false≢true}
use Rattle.std.specs.List.{AllByRecursion}

-- two tests that agree on each element leave the same
pub same_left : {X : Type 0} (p q : X → Bool) (xs : List X) → AllByRecursion (λ x. p x ≡ q x) xs → filter p xs ≡ filter q xs
same_left p q [] h = refl
same_left p q (x ∷ xs) h = ap₂ (λ (b : Bool) (ys : List _). cond b (x ∷ ys) ys) h.0 (same_left p q xs h.1)

-- one filter behind another
pub left_twice : {X : Type 0} (p q : X → Bool) (xs : List X) → filter p (filter q xs) ≡ filter (λ x. q x && p x) xs
left_twice p q [] = refl
left_twice p q (x ∷ xs) = by (q x) (left_twice p q xs)
  where
    by : (b : Bool) → filter p (filter q xs) ≡ filter (λ x. q x && p x) xs
        → filter p (cond b (x ∷ filter q xs) (filter q xs)) ≡ cond (b && p x) (x ∷ filter (λ x. q x && p x) xs) (filter (λ x. q x && p x) xs)
    by true rest = ap (λ (ys : List _). cond (p x) (x ∷ ys) ys) rest
    by false rest = rest

-- what holds of each element, where one fact leads to another
pub leads : {X : Type 0} (P Q : X → Type 0) (xs : List X) → ((x : X) → P x → Q x) → AllByRecursion P xs → AllByRecursion Q xs
leads P Q [] step h = tt
leads P Q (x ∷ xs) step h = (step x h.0, leads P Q xs step h.1)

pub all_joined : {X : Type 0} (P : X → Type 0) (xs ys : List X) → AllByRecursion P xs → AllByRecursion P ys → AllByRecursion P (xs ++ ys)
all_joined P [] ys h k = k
all_joined P (x ∷ xs) ys h k = (h.0, all_joined P xs ys h.1 k)

-- what holds of each element that a test leaves
pub unfiltered : {X : Type 0} (P : X → Type 0) (test : X → Bool) (xs : List X) → AllByRecursion P (filter test xs) → AllByRecursion (λ x. test x ≡ true → P x) xs
unfiltered P test [] h = tt
unfiltered P test (x ∷ xs) h = by (test x) refl h (unfiltered P test xs)
  where
    by : (b : Bool) → test x ≡ b → AllByRecursion P (cond b (x ∷ filter test xs) (filter test xs))
        → (AllByRecursion P (filter test xs) → AllByRecursion (λ y. test y ≡ true → P y) xs) → AllByRecursion (λ y. test y ≡ true → P y) (x ∷ xs)
    by true e h others = (λ is. h.0, others h.1)
    by false e h others = (λ is. absurd (false≢true (sym e ∙ is)), others h)
