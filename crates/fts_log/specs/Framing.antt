-- The bytes that an append writes first.
use Rattle.std.specs.Prelude.{ℕ, List, [], ◌∷◌, ◌++◌, length, take, drop, ◌-◌}
use Rattle.std.specs.Int.{w32, to_be_bytes}

-- a record without its gate, and a closed gate behind it
abbrev pub staged : List ℕ → List ℕ
staged payload = to_be_bytes w32 (length payload) ++ payload ++ 0 ∷ []

-- what stands between the length and the closed gate
abbrev pub inner : List ℕ → List ℕ
inner bytes = take (length bytes - 5) (drop 4 bytes)
