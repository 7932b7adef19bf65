-- What a writer leaves of a buffer.
use Rattle.std.specs.Prelude.{◌≡◌, ℕ, List, ◌++◌, length, drop}

-- the text stands at the head, what stood behind it is as it was, and the count is the text's length
abbrev pub Puts : List ℕ → List ℕ → List ℕ → ℕ → Type 0
Puts text old new count = (new ≡ text ++ drop (length text) old) × (count ≡ length text)
