-- What stands of a database, and which worlds it fits.
use Rattle.std.specs.Prelude.{◌≡◌, ℕ, [], ◌∷◌, ◌++◌, Bool, true, false, Option, Some, None, option_to_list}
use Rattle.fts_types.specs.declared.limits.Limits.{Limits}
use Rattle.fts_commits.specs.Commit.{Commit}
use Rattle.fts_disk.specs.Device.{Files}
use Rattle.fts_disk.specs.Crash.{Images, Only}
use Rattle.fts_disk.specs.declared.disk.Disk.{Ghosts}
use Rattle.fts_steps.specs.Running.{Running}
use Rattle.fts_steps.specs.Crash.{MayHold, MayHoldIndex}
use Rattle.fts_steps.specs.Right.{HasRightIndex}
use Rattle.fts_engine.specs.Stands.{Holds, engine_limits}
use Rattle.fts_core.specs.declared.event.Event.{Event}
use Rattle.fts_core.specs.declared.event.Event.TheVariants.{Crash}
use Rattle.fts_core.specs.declared.world.Last.{Last}
use Rattle.fts_core.specs.declared.world.Last.TheVariants.{Other, Acknowledged, Dropped}
use Rattle.fts_core.specs.declared.world.Place.{Place}
use Rattle.fts_core.specs.declared.world.Place.TheVariants.{Closed, Open}
use Rattle.fts_core.specs.declared.world.World.{World}
use Rattle.fts_core.specs.World.{rows_at, index_at, acknowledged, in_doubt, Moments}

-- what stands: the database with the acknowledged commits and the entries of its index log, and what is in doubt of
-- both; what stands if the answer of the last call counts as not given; the limits of the engine, if one is open; and
-- the moments at which the last call began
pub record Core : Type 0 where
  pub now : Running
  pub undone : Running
  pub limits : Option Limits
  pub since : Moments

-- ---- which worlds it fits

-- a crash now leaves of a device what has P, and one at a moment since the last call began what has Q
pub record MayLeave {D : Type 0} (disk : Ghosts D) (P Q : Images) (since : ℕ) (device : D) : Type 0 where
  pub now : (c : Files) → disk.images device c → P c
  pub undone : (c : Files) → disk.left_since device since c → Q c

-- no engine is open; or one is, under its limits, and it stands for what stands
abbrev pub RunsAt : {D E : Type 0} {rows : Ghosts D} {index : Ghosts E} → Core → Place D E rows index → Type 0
RunsAt core (Closed rows index) = core.limits ≡ None
RunsAt core (Open engine) = (core.limits ≡ Some (engine_limits engine)) × Holds core.now engine

-- what a crash within the last call takes back
abbrev pub TakesBack : Last → Running → Running → Type 0
TakesBack Other now undone = (undone.state.commits ≡ now.state.commits) × (undone.doubt ≡ now.doubt)
TakesBack Acknowledged now undone = (commit : Commit) × (now.state.commits ≡ undone.state.commits ++ commit ∷ [])
    × (now.doubt ≡ []) × (undone.doubt ≡ commit ∷ [])
TakesBack (Dropped doubt) now undone = (undone.state.commits ≡ now.state.commits)
    × (now.doubt ≡ []) × (undone.doubt ≡ option_to_list doubt)

-- the core is that of the world: its lists are the world's, and its devices hold what stands
pub record Fits {D E : Type 0} {rows : Ghosts D} {index : Ghosts E} (core : Core) (world : World D E rows index)
    : Type 0 where
  pub acknowledged : acknowledged world ≡ core.now.state.commits
  pub doubt : in_doubt world ≡ core.now.doubt
  pub last : TakesBack world.last core.now core.undone
  pub on_rows : MayLeave rows (MayHold core.now.state core.now.doubt) (MayHold core.undone.state core.undone.doubt)
      core.since.rows (rows_at world.place)
  pub on_index : MayLeave index (MayHoldIndex core.now.state core.now.loose)
      (MayHoldIndex core.undone.state core.undone.loose) core.since.index (index_at world.place)
  pub runs : RunsAt core world.place
  pub right : HasRightIndex core.now
  pub right_undone : HasRightIndex core.undone

-- ---- which crashes there can be

-- the device may lie so after a crash: at a moment since the last call began, or now
abbrev pub IsLeft : {D : Type 0} → Ghosts D → Bool → ℕ → D → Files → Type 0
IsLeft disk true since device files = disk.left_since device since files
IsLeft disk false since device files = disk.images device files

-- the device that a crash leaves reads as an image of the one before, and that is its only image
pub record IsLeftOn {D : Type 0} (disk : Ghosts D) (within : Bool) (since : ℕ) (before after : D) : Type 0 where
  pub left : IsLeft disk within since before (disk.seen after)
  pub only : Only (disk.seen after) (disk.images after)

-- a crash can fall so: each device is left so. Of other events nothing is asked
abbrev pub CanCome : {D E : Type 0} {rows : Ghosts D} {index : Ghosts E}
    → Core → World D E rows index → Event D E → Type 0
CanCome {rows} {index} core world (Crash rows' index' within) =
    IsLeftOn rows within core.since.rows (rows_at world.place) rows'
    × IsLeftOn index within core.since.index (index_at world.place) index'
CanCome core world event = Unit {0}
