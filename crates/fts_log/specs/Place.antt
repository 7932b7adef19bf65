-- The places of the records that an opening found.
use Rattle.std.specs.Prelude.{ℕ, ◌+◌, ◌<◌, ◌≤◌, List, length, slice_index, zero, suc}

-- where record k begins: behind the magic, or where the one before it ends
abbrev pub start_of : List ℕ → ℕ → ℕ
start_of ends zero = 8
start_of ends (suc k) = slice_index ends k

-- each record has room for its gate and its length
abbrev pub IsSpaced : List ℕ → Type 0
IsSpaced ends = (k : ℕ) → k < length ends → start_of ends k + 5 ≤ slice_index ends k

-- each of these places lies before the end
abbrev pub AreWithin : ℕ → List ℕ → Type 0
AreWithin end_ ends = (k : ℕ) → k < length ends → slice_index ends k < end_
