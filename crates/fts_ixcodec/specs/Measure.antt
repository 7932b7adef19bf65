-- How many bytes come together.
use Rattle.std.specs.Prelude.{◌≡◌, ℕ, ◌+◌, List, length}

-- so many bytes and these are together size
abbrev pub IsSum : ℕ → List ℕ → ℕ → Type 0
IsSum start bytes size = size ≡ start + length bytes
