-- What `gen` has done to the sink and the devices.
use Rattle.std.specs.Prelude.{◌≡◌, ◌⊎◌, ℕ, [], IsTrue, Result, Ok, Err, IsOk}
use Rattle.fts_types.specs.Limits.{standard_limits}
use Rattle.fts_steps.specs.FaultCounts.{CountsFaultOf}
use Rattle.fts_steps.specs.State.{State}
use Rattle.fts_steps.specs.Running.{opened}
use Rattle.fts_engine.specs.declared.error.OpenError.{OpenError}
use Rattle.fts_workers.specs.declared.health.Health.{Health}
use Rattle.fts_workers.specs.declared.health.Health.TheVariants.{Sound, Short, Failed}
use Rattle.fts_top.specs.declared.ends.Unsent.{Unsent}
use Rattle.fts_top.specs.declared.ends.Unsent.TheVariants as unsent
use Rattle.fts_top.specs.declared.status.Status.{Status}
use Rattle.fts_top.specs.declared.status.Status.TheVariants as status
use Rattle.fts_top.specs.Ends.{status_of_opening}
use Rattle.fts_top.specs.Generate.{script_of, Generates}
use Rattle.fts_engine.specs.Devices.{Devices, Disks, DisksTell, disk_faults, device_sight}
use Rattle.fts_top.specs.Once.{SinkSeen, DisksHold, Unopened}
use Rattle.fts_top.specs.Run.{sides}

-- the script of a number was executed on the database that the opening found, and ended so
pub record Generated {D E : Type 0} (disks : Disks D E) (seed statements : ℕ) (end : Result Health Unsent)
    (sink sink' : SinkSeen) (before after : Devices D E) : Type 0 where
  pub found : DisksTell disks → (state : State) × DisksHold disks state before
  pub outcome : IsTrue sink.tells → DisksTell disks → (start : State) → DisksHold disks start before
      → Generates (device_sight disks start.settings standard_limits) end statements (opened start)
      (script_of start.settings seed statements) (sides [] sink.held before) (sides [] sink'.held after)
  pub fault : IsOk end → CountsFaultOf (end ≡ Ok Failed) (disk_faults disks before) (disk_faults disks after)

-- the status of its end
abbrev pub status_of_gen : Result Health Unsent → Status
status_of_gen (Ok Sound) = status.Done
status_of_gen (Ok Short) = status.NoMemory
status_of_gen (Ok Failed) = status.DiskFault
status_of_gen (Err unsent.NoMemory) = status.NoMemory
status_of_gen (Err unsent.WriteFault) = status.WriteFault

-- how `gen` ended
abbrev pub GenEnds : {D E : Type 0} → Disks D E → ℕ → ℕ → Status → Type 0 → SinkSeen → SinkSeen → Devices D E
    → Devices D E → Type 0
GenEnds disks seed statements result unwritten sink sink' before after =
    ((end : Result Health Unsent) × (result ≡ status_of_gen end)
    × Generated disks seed statements end sink sink' before after)
    ⊎ ((error : OpenError) × (result ≡ status_of_opening error) × Unopened disks error unwritten before after)
