use Rattle.std.specs.Prelude.{◌≡◌, ℕ, ◌-◌, ◌^◌, ◌<◌, ◌≤◌, ◌⊎◌, Result, IsErr}

-- the count rose between two moments: it is greater, or stands at the last value of a u64
abbrev pub Rose : ℕ → ℕ → Type 0
Rose before after = (before < after) ⊎ (2 ^ 64 - 1 ≤ after)

-- a fault is counted exactly where it is told: the count then rose, and else it stands as it stood
pub record CountsFault (told : Type 0) (before after : ℕ) : Type 0 where
  pub rose : told → Rose before after
  pub calm : (told → ⊥) → after ≡ before
  pub never_falls : before ≤ after

-- a call counts a fault exactly where it fails
abbrev pub HasCause : {T E : Type 0} → ℕ → ℕ → Result T E → Type 0
HasCause before after result = CountsFault (IsErr result) before after
