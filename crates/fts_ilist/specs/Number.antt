-- Numbers as bytes: groups of seven bits, the most significant first.
use Rattle.std.specs.Prelude.{◌≡◌, ℕ, zero, suc, ◌+◌, ◌/◌, ◌%◌, ◌^◌, ◌<◌, List, [], ◌∷◌, ◌++◌}

-- the groups of seven bits of n, the most significant first and none of zeros before it; k is at least their number
unfoldable pub groups : ℕ → ℕ → List ℕ
groups zero n = []
groups (suc k) zero = []
groups (suc k) (suc m) = groups k (suc m / 128) ++ (suc m % 128) ∷ []

-- the spelling of a number: its groups in the fewest bytes, the high bit set on the last byte alone
unfoldable pub number_bytes : ℕ → List ℕ
number_bytes n = groups (n / 128) (n / 128) ++ (n % 128 + 128) ∷ []

-- the bytes begin with a number of 64 bits
abbrev pub BeginsWithNumber : List ℕ → Type 0
BeginsWithNumber bytes = (n : ℕ) × (rest : List ℕ) × (n < 2 ^ 64) × (bytes ≡ number_bytes n ++ rest)
