-- Why a commit is refused.
use Rattle.std.specs.Prelude.{◌≡◌, ℕ, ◌<◌, Result, Err}
use Rattle.fts_commits.specs.declared.refusal.Refusal.{Refusal}
use Rattle.fts_commits.specs.declared.refusal.Refusal.TheVariants.{TextTooLong, RowsFull}
use Rattle.fts_rows.specs.declared.error.PlanError.{PlanError}
use Rattle.fts_rows.specs.declared.error.PlanError.TheVariants.{NoMemory, Refused}

-- why there is no plan: memory ran out, or this was refused, and so
abbrev pub IsNoPlan : {X : Type 0} → Result X Refusal → PlanError → Type 0
IsNoPlan outcome NoMemory = Unit {0}
IsNoPlan outcome (Refused refusal) = outcome ≡ Err refusal

-- memory ran out, or the texts of this change's row have so many bytes, which are too many
abbrev pub IsTooLong : ℕ → ℕ → PlanError → Type 0
IsTooLong change bytes NoMemory = Unit {0}
IsTooLong change bytes (Refused refusal) = (65535 < bytes) × (refusal ≡ TextTooLong change bytes)

-- memory ran out, or so many rows would stand, which are more than the limit
abbrev pub IsTooMany : ℕ → ℕ → PlanError → Type 0
IsTooMany limit rows NoMemory = Unit {0}
IsTooMany limit rows (Refused refusal) = (limit < rows) × (refusal ≡ RowsFull rows)
