-- How many entries the logs of an engine have, and what a step adds to them, whatever the engine stands for.
use Rattle.std.specs.Prelude.{◌≡◌, ℕ, ◌+◌, ◌*◌, ◌<◌, ◌≤◌, ◌^◌, false, length, Option, Some, None, IsTrue}
use Rattle.std.proofs.Common.{arith}
use Rattle.fts_disk.specs.declared.disk.Disk.{Ghosts}
use Rattle.fts_log.specs.Log.{count_of, few_entries}
use Rattle.fts_steps.specs.Step.{Ask, Answer, is_disk_fault, entries_of}
use Rattle.fts_engine.specs.declared.engine.Engine.{Engine}
use Rattle.fts_engine.specs.Stands.{rows_log, index_log, stopped_at}

-- one where a fault stopped the engine
abbrev pub stops : Option ℕ → ℕ
stops None = 0
stops (Some faults) = 1

-- how many entries both logs have, and one more where a fault stopped the engine
abbrev pub tally : {D E : Type 0} {rows : Ghosts D} {index : Ghosts E} → Engine D E rows index → ℕ
tally engine = count_of (rows_log engine) + count_of (index_log engine) + stops (stopped_at engine)

-- a step counts what it adds; and a fault stops an engine that none stopped before
pub record Counts {D E : Type 0} {rows : Ghosts D} {index : Ghosts E} (ask : Ask) (answer : Answer)
    (old new : Engine D E rows index) : Type 0 where
  pub tally_is : tally new ≡ tally old + length (entries_of 0 ask answer)
  pub going : stopped_at new ≡ None → (is_disk_fault answer ≡ false) × (stopped_at old ≡ None)
  pub once : IsTrue (is_disk_fault answer) → stopped_at old ≡ None

-- two logs have few entries together
few_of_both : (m n : ℕ) (stopped : Option ℕ) → 5 * m ≤ 2 ^ 63 → 5 * n ≤ 2 ^ 63 → m + n + stops stopped < 2 ^ 62
few_of_both m n None few more = omega (arith, few, more)
few_of_both m n (Some faults) few more = omega (arith, few, more)

-- they are below 2^62, since an entry takes five bytes of a log and more
pub few_entries_in_both : {D E : Type 0} {rows : Ghosts D} {index : Ghosts E} (engine : Engine D E rows index)
    → tally engine < 2 ^ 62
few_entries_in_both engine =
    few_of_both _ _ (stopped_at engine) (few_entries (rows_log engine)) (few_entries (index_log engine))
