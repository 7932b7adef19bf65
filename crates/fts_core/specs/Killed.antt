-- What an opening finds behind a crash at any moment of a run.
use Rattle.std.specs.Prelude.{◌≡◌, List, [], ◌∷◌, ◌++◌}
use Rattle.fts_types.specs.declared.limits.Limits.{Limits}
use Rattle.fts_types.specs.declared.settings.Settings.{Settings}
use Rattle.fts_commits.specs.Commit.{Commit}
use Rattle.fts_disk.specs.Device.{Files}
use Rattle.fts_steps.specs.State.{State, IsDatabase, IsRight}
use Rattle.fts_steps.specs.Running.{Running}
use Rattle.fts_steps.specs.Step.{Call, StepOf, after_call}
use Rattle.fts_engine.specs.Devices.{Devices, Disks, device_sight}

-- the files are those of a database, whose index is right: with the commits before a step, and the one that the step
-- added or left in doubt, or without it
pub record AreFound (before after : Running) (rows index : Files) : Type 0 where
  pub state : State
  pub database : IsDatabase state (rows 0) index
  pub right : IsRight state
  pub front : List Commit
  pub rest : List Commit
  pub commits : state.commits ≡ before.state.commits ++ front
  pub added : after.state.commits ++ after.doubt ≡ before.state.commits ++ (front ++ rest)

-- a crash at any moment of a step leaves such files of the two devices
abbrev pub OpensWithin : {D E : Type 0} → Disks D E → Running → Running → Devices D E → Devices D E → Type 0
OpensWithin disks before after old new = (rows index : Files)
    → disks.rows.left_since new.rows (disks.rows.moment old.rows) rows
    → disks.index.left_since new.index (disks.index.moment old.index) index → AreFound before after rows index

-- these steps were made one after another, and so it is of each
abbrev pub AllOpen : {D E : Type 0} → Disks D E → Settings → Limits → Running → List Call → Devices D E → Devices D E
    → Type 0
AllOpen disks settings limits running [] old new = new ≡ old
AllOpen {D} {E} disks settings limits running (call ∷ calls) old new = (mid : Devices D E)
    × StepOf (device_sight disks settings limits) running call old mid
    × OpensWithin disks running (after_call running call) old mid
    × AllOpen disks settings limits (after_call running call) calls mid new
