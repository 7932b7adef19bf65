-- Reading field by field: a value and the bytes behind it, or where the first field that can't stand there begins, told
-- by how many bytes there are from it on.
use Rattle.std.specs.Prelude.{ℕ, zero, suc, Bool, if◌then◌else◌, List, [], ◌∷◌, length, Option, Some, None}
use Rattle.std.specs.Prelude.{Result, Ok, Err}

infixl 10 ◌>>=◌
abbrev pub ◌>>=◌ : {A B : Type 0} → Result A ℕ → (A → Result B ℕ) → Result B ℕ
(Ok x) >>= f = f x
(Err left) >>= f = Err left

-- a field that may be missing
abbrev pub or_left : {X : Type 0} → ℕ → Option X → Result X ℕ
or_left left (Some x) = Ok x
or_left left None = Err left

-- a field at the front of bytes
abbrev pub field : {X : Type 0} → (List ℕ → Option X) → List ℕ → Result X ℕ
field read bytes = or_left (length bytes) (read bytes)

-- a value that passes a test
abbrev pub only : {X : Type 0} → (X → Bool) → Option (X × List ℕ) → Option (X × List ℕ)
only test (Some x) = if test x.0 then Some x else None
only test None = None

abbrev pub tested : {X : Type 0} → (X → Bool) → (List ℕ → Option (X × List ℕ)) → List ℕ → Option (X × List ℕ)
tested test read bytes = only test (read bytes)

-- so many values, one behind another
unfoldable pub many_at : {X : Type 0} → (List ℕ → Result (X × List ℕ) ℕ) → ℕ → List ℕ → Result (List X × List ℕ) ℕ
many_at one zero bytes = Ok ([], bytes)
many_at one (suc count) bytes = do
  first ← one bytes
  others ← many_at one count first.1
  Ok (first.0 ∷ others.0, others.1)
