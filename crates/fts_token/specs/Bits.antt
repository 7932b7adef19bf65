use Rattle.std.specs.Prelude.{ℕ, zero, suc, ◌+◌, ◌==◌, if◌then◌else◌, Bool, not}
use Rattle.std.specs.Int.{bit_at}

-- the number has this bit, counted from the lowest
unfoldable pub has_bit : ℕ → ℕ → Bool
has_bit n i = bit_at n i == 1

-- one of the two holds, and the other doesn't
abbrev pub differ : Bool → Bool → Bool
differ a b = if a then not b else b

-- whether the place before one passes the test, where it is said of the place before the first
abbrev pub one_before : Bool → (ℕ → Bool) → ℕ → Bool
one_before first test zero = first
one_before first test (suc i) = test i

-- whether the place behind one of 64 passes the test, where it is said of the place behind the last
abbrev pub one_behind : Bool → (ℕ → Bool) → ℕ → Bool
one_behind last test i = if i == 63 then last else test (i + 1)
