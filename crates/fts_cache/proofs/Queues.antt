-- Words are the same or not, and what a call's result says.
use Rattle.std.specs.Result.{IsOk}
use Rattle.std.proofs.Common.{◌≡◌, ◌≢◌, ◌⊎◌, inl, inr, ℕ, Bool, true, false, List, Result, Ok, Err, OnOk, OnErr, refl, sym, subst, ◌∙◌, true≢false}
use Rattle.std.specs.Str.{bytes_eq}
use Rattle.std.proofs.lemmas.Slice.Eq.{bytes_eq-Decides}

-- ---- words are the same or not

pub same_word : (v w : List ℕ) → bytes_eq v w ≡ true → v ≡ w
same_word v w e = (bytes_eq-Decides v w).0 e

pub is_same : (w : List ℕ) → bytes_eq w w ≡ true
is_same w = (bytes_eq-Decides w w).1 refl

pub which_word : (v w : List ℕ) → ((bytes_eq v w ≡ true) × (v ≡ w)) ⊎ ((bytes_eq v w ≡ false) × (v ≢ w))
which_word v w = by (bytes_eq v w) refl
  where
    by : (b : Bool) → bytes_eq v w ≡ b → ((b ≡ true) × (v ≡ w)) ⊎ ((b ≡ false) × (v ≢ w))
    by true e = inl (refl, same_word v w e)
    by false e = inr (refl, λ (f : v ≡ w). true≢false (sym (subst (λ (x : List ℕ). bytes_eq v x ≡ true) f (is_same v)) ∙ e))

pub on_ok : {X E : Type 0} (r : Result X E) (P Q : Type 0) → (P → Q) → OnOk r P → OnOk r Q
on_ok (Ok x) P Q f h = f h
on_ok (Err e) P Q f h = tt

pub on_err : {X E : Type 0} (r : Result X E) (P Q : Type 0) → (P → Q) → OnErr r P → OnErr r Q
on_err (Ok x) P Q f h = tt
on_err (Err e) P Q f h = f h

pub ok_holds : {X E : Type 0} (r : Result X E) (P : Type 0) → IsOk r → OnOk r P → P
ok_holds (Ok x) P i h = h
ok_holds (Err e) P i h = absurd (let never : false ≡ true = i in cc)
