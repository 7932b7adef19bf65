-- Bytes are at fault at one place.
use Rattle.std.proofs.Common.{◌≡◌, ℕ, zero, suc, ◌+◌, List, [], ◌∷◌, ◌++◌, length, Option, Some, refl, sym, ap, subst, ◌∙◌, inl, inr}
use Rattle.fts_codec.specs.Grammar.{Faults, InField, AtEnd, InMany}
use Rattle.fts_codec.proofs.Spelled.{Spells, some_is}

abbrev pub IsOne : Faults → Type 0
IsOne Where = (bytes : List ℕ) (a b : ℕ) → Where bytes a → Where bytes b → a ≡ b

pub end_one : IsOne AtEnd
end_one bytes a b x y = x.0 ∙ sym y.0

abbrev value : {X : Type 0} → X × List ℕ → Option (X × List ℕ)
value x = Some x

-- a field, by a reader that gives each of its values
module _ {X : Type 0} (spelled : X → List ℕ) (May : X → Type 0) (read : List ℕ → Option (X × List ℕ)) (again : (x : X) (rest : List ℕ) → May x → read (spelled x ++ rest) ≡ Some (x, rest))
    (Behind : X → Faults) (each : (x : X) → IsOne (Behind x)) where
  pub read_one : IsOne (InField spelled May Behind)
  read_one bytes a b (inl x) (inl y) = x.0 ∙ sym y.0
  read_one bytes a b (inl x) (inr y) = absurd (x.1 y.0 y.1 y.3 y.4)
  read_one bytes a b (inr x) (inl y) = absurd (y.1 x.0 x.1 x.3 x.4)
  read_one bytes a b (inr x) (inr y) =
      let same : value (x.0, x.1) ≡ value (y.0, y.1) = sym (again x.0 x.1 x.3) ∙ ap read (sym x.4 ∙ y.4) ∙ again y.0 y.1 y.3 in
      let pair = some_is (x.0, x.1) (y.0, y.1) same in
      let other : Behind x.0 x.1 y.2 = subst (λ (p : X × List ℕ). Behind p.0 p.1 y.2) (sym pair) y.6 in
      let more : x.2 ≡ y.2 = each x.0 x.1 x.2 y.2 x.6 other in
      let place : length (spelled x.0) + x.2 ≡ length (spelled y.0) + y.2 =
      ap (λ (n : ℕ). length (spelled x.0) + n) more ∙ ap (λ (p : X × List ℕ). length (spelled p.0) + y.2) pair in
      x.5 ∙ place ∙ sym y.5

pub field_one : {X : Type 0} (spelled : X → List ℕ) (May : X → Type 0) (read : List ℕ → Option (X × List ℕ)) → Spells spelled May read
    → (Behind : X → Faults) → ((x : X) → IsOne (Behind x)) → IsOne (InField spelled May Behind)
field_one spelled May read spells Behind each = read_one spelled May read spells.again Behind each

-- so many parts
pub many_one : (Part : Faults → Faults) → ((Behind : Faults) → IsOne Behind → IsOne (Part Behind)) → (count : ℕ) (Behind : Faults) → IsOne Behind → IsOne (InMany Part count Behind)
many_one Part part zero Behind behind = behind
many_one Part part (suc count) Behind behind = part (InMany Part count Behind) (many_one Part part count Behind behind)
