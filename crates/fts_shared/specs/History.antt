-- What the engine under the turn stands for: all that was added since the turn was made.
use Rattle.std.specs.Prelude.{◌≡◌, ◌≤◌, ◌<◌, ◌^◌, ℕ, ◌+◌, List, [], ◌∷◌, ◌++◌, length, map, Option, Some, None}
use Rattle.std.proofs.Common.{arith}
use Rattle.fts_disk.specs.declared.disk.Disk.{Ghosts}
use Rattle.fts_steps.specs.FaultCounts.{together, NoneFell}
use Rattle.fts_steps.specs.Running.{Running, Entry, What, made, batched, optimized, failed, batch_failed}
use Rattle.fts_steps.specs.Running.{optimize_failed, read_failed, grown}
use Rattle.fts_engine.specs.declared.engine.Engine.{Engine}
use Rattle.fts_engine.specs.Stands.{Holds, engine_settings, engine_limits, engine_faults}
use Rattle.fts_engine.specs.Tally.{tally, few_entries_in_both}
use Rattle.fts_shared.specs.declared.at_turn.AtTurn.{AtTurn}

-- these were added by the seat of this number
abbrev pub noted : ℕ → List What → List Entry
noted by whats = map (λ what. record { by = by; what = what }) whats

-- what a read adds that failed with this sum of the counts of faults, or did not
abbrev pub read_fault : Option ℕ → List What
read_fault None = []
read_fault (Some faults) = read_failed faults ∷ []

-- the sum of the counts of faults that an entry tells, or the one before it
abbrev pub faults_by : What → ℕ → ℕ
faults_by (made commit) before = before
faults_by batched before = before
faults_by optimized before = before
faults_by (failed faults doubt) before = faults
faults_by (batch_failed faults) before = faults
faults_by (optimize_failed faults) before = faults
faults_by (read_failed faults) before = faults

-- the sum that the last fault among these entries tells, or the one before them
abbrev pub faults_in : ℕ → List Entry → ℕ
faults_in before [] = before
faults_in before (entry ∷ entries) = faults_in (faults_by entry.what before) entries

-- no fault tells less than those before it
abbrev pub NoneTellsLess : ℕ → List Entry → Type 0
NoneTellsLess before [] = Unit {0}
NoneTellsLess before (entry ∷ entries) =
    (before ≤ faults_by entry.what before) × NoneTellsLess (faults_by entry.what before) entries

-- how many entries the value under the turn counts: those of its logs, and the faults of reads
abbrev pub entries_at : {D E : Type 0} {rows : Ghosts D} {index : Ghosts E} → AtTurn D E rows index → ℕ
entries_at value = tally value.engine + value.read_faults

-- some engine held it: whatever the first engine held, grown by these entries
abbrev pub WasHeld : {D E : Type 0} {rows : Ghosts D} {index : Ghosts E} → Engine D E rows index → List Entry → Type 0
WasHeld {D} {E} {rows} {index} first entries = (engine : Engine D E rows index)
    × ((running : Running) → Holds running first → Holds (grown running entries) engine)

-- from the first value the one now came by these entries: whatever the first engine held, the one now holds it grown
-- by them; and so did some engine behind each of them
pub record StandsFor {D E : Type 0} {rows : Ghosts D} {index : Ghosts E} (first now : AtTurn D E rows index)
    (history : List Entry) : Type 0 where
  pub stands : (running : Running) → Holds running first.engine → Holds (grown running history) now.engine
  pub held : (front rest : List Entry) → history ≡ front ++ rest → WasHeld first.engine front
  pub settings : engine_settings now.engine ≡ engine_settings first.engine
  pub limits : engine_limits now.engine ≡ engine_limits first.engine
  pub count : entries_at now ≡ entries_at first + length history
  pub faults : together (engine_faults now.engine) ≡ faults_in (together (engine_faults first.engine)) history
  pub rising : NoneTellsLess (together (engine_faults first.engine)) history
  pub none_fell : NoneFell (engine_faults first.engine) (engine_faults now.engine)

-- so many are few
pub few : {D E : Type 0} {rows : Ghosts D} {index : Ghosts E} (first now : AtTurn D E rows index)
    (history : List Entry) → StandsFor first now history → entries_at first + length history < 2 ^ 63
few first now history stands =
    let count = stands.count in
    let written = few_entries_in_both now.engine in
    let read = now.few in
    omega (arith, count, written, read)
