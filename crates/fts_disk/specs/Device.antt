use Rattle.std.specs.Prelude.{◌≡◌, ◌≢◌, ℕ, ◌+◌, ◌≤◌, List, ◌++◌, length, take, drop, max, min}

-- what the files of a device hold, by their numbers; a file that was never written is empty
abbrev pub Files : Type 0
Files = ℕ → List ℕ

-- one file takes a step, and the others stay as they are
pub record OnFile (file : ℕ) (step : List ℕ → List ℕ → Type 0) (old new : Files) : Type 0 where
  pub this : step (old file) (new file)
  pub others : (other : ℕ) → other ≢ file → new other ≡ old other

-- the file has these bytes at a place, and what it had before and behind them
abbrev pub Written : ℕ → List ℕ → List ℕ → List ℕ → Type 0
Written at bytes old new = new ≡ take at old ++ bytes ++ drop (at + length bytes) old

-- the file is cut to n bytes
abbrev pub Cut : ℕ → List ℕ → List ℕ → Type 0
Cut n old new = new ≡ take n old

-- a write of n bytes at a place that was cut short: its range may hold any bytes, the rest stays,
-- and the length lies between the old one and the one that the write wanted
pub record Torn (at n : ℕ) (old new : List ℕ) : Type 0 where
  pub before : take at new ≡ take at old
  pub after : drop (at + n) new ≡ drop (at + n) old
  pub no_shorter : length old ≤ length new
  pub no_longer : length new ≤ max (length old) (at + n)

-- a cut to n bytes that a crash stopped: a front of the file, no shorter than the cut wants
pub record Shortened (n : ℕ) (old new : List ℕ) : Type 0 where
  pub no_shorter : min n (length old) ≤ length new
  pub front : take (length new) old ≡ new
