-- The counts of faults of the two devices of a database, and when one of them rose.
use Rattle.std.specs.Prelude.{◌≡◌, ◌≤◌, ◌+◌, ◌⊎◌, ℕ}
use Rattle.fts_faults.specs.Count.{Rose}

-- how many faults the rows device had, and how many the index device
abbrev pub FaultCounts : Type 0
FaultCounts = ℕ × ℕ

-- how many they had together
abbrev pub together : FaultCounts → ℕ
together counts = counts.0 + counts.1

-- the count of one of them rose
abbrev pub OneRose : FaultCounts → FaultCounts → Type 0
OneRose before after = Rose before.0 after.0 ⊎ Rose before.1 after.1

-- the count of neither fell
abbrev pub NoneFell : FaultCounts → FaultCounts → Type 0
NoneFell before after = (before.0 ≤ after.0) × (before.1 ≤ after.1)

-- a fault of a device is counted exactly where it is told: the count of one of the two then rose, and else both stand
-- as they stood
pub record CountsFaultOf (told : Type 0) (before after : FaultCounts) : Type 0 where
  pub rose : told → OneRose before after
  pub calm : (told → ⊥) → after ≡ before
  pub never_fall : NoneFell before after
