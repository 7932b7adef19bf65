-- What may stand in a payload, field by field, and so the place, from 0, at which bytes stop being one: where the first
-- field begins that can't stand there, or where one is missing.
use Rattle.std.specs.Prelude.{◌≡◌, ◌≢◌, ℕ, zero, suc, ◌+◌, ◌≤◌, List, [], ◌∷◌, ◌++◌, length, ◌⊎◌}

-- bytes, and the place of their first fault
abbrev pub Faults : Type 1
Faults = List ℕ → ℕ → Type 0

-- Bytes that have to begin with a field, which is spelled so. Where none of the values that it may have stands there,
-- the fault is at the field. Where one does, it is behind it.
abbrev pub InField : {X : Type 0} → (X → List ℕ) → (X → Type 0) → (X → Faults) → Faults
InField spelled May Behind bytes at =
    ((at ≡ 0) × ((x : _) (rest : List ℕ) → May x → bytes ≢ spelled x ++ rest))
    ⊎ ((x : _) × (rest : List ℕ) × (more : ℕ) × May x × (bytes ≡ spelled x ++ rest)
    × (at ≡ length (spelled x) + more) × Behind x rest more)

-- bytes at which the payload has to end
abbrev pub AtEnd : Faults
AtEnd bytes at = (at ≡ 0) × (bytes ≢ [])

-- so many parts, one behind another, and what has to follow
abbrev pub InMany : (Faults → Faults) → ℕ → Faults → Faults
InMany Part zero Behind = Behind
InMany Part (suc count) Behind = Part (InMany Part count Behind)

-- a field of one byte
abbrev pub one_byte : ℕ → List ℕ
one_byte n = n ∷ []

-- a number from low to high
abbrev pub IsFrom : ℕ → ℕ → ℕ → Type 0
IsFrom low high n = (low ≤ n) × (n ≤ high)
