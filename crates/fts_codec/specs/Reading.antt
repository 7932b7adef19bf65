-- Reading from left to right: a value and the bytes behind it, or nothing where none is spelled there.
use Rattle.std.specs.Prelude.{◌≡◌, ℕ, if◌then◌else◌, ◌==◌, nat_lt, List, [], ◌∷◌, length, take, drop}
use Rattle.std.specs.Prelude.{Option, Some, None}
use Rattle.std.specs.Int.{Width, byte_len, from_be_bytes}

-- what a reader returned, seen by view, is what reading gives
abbrev pub Finds : {X Y : Type 0} → (X → Y) → Option X → Option Y → Type 0
Finds view (Some x) read = read ≡ Some (view x)
Finds view None read = read ≡ None

-- a byte
abbrev pub first_at : List ℕ → Option (ℕ × List ℕ)
first_at [] = None
first_at (first ∷ rest) = Some (first, rest)

-- what stands behind this byte
abbrev pub behind_at : ℕ → List ℕ → Option (List ℕ)
behind_at byte [] = None
behind_at byte (first ∷ rest) = if first == byte then Some rest else None

-- a number of this width
abbrev pub number_at : Width → List ℕ → Option (ℕ × List ℕ)
number_at w bytes =
    if nat_lt (length bytes) (byte_len w) then None
    else Some (from_be_bytes w (take (byte_len w) bytes), drop (byte_len w) bytes)

-- so many bytes
abbrev pub piece_at : ℕ → List ℕ → Option (List ℕ × List ℕ)
piece_at count bytes = if nat_lt (length bytes) count then None else Some (take count bytes, drop count bytes)
