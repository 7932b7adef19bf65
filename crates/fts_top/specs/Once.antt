use Rattle.std.specs.Prelude.{◌≡◌, ◌⊎◌, ◌≤◌, ◌^◌, Bool, ℕ, List, ◌∷◌, [], ◌++◌, length, take, codes, IsTrue}
use Rattle.fts_io.specs.Text.{lines_of}
use Rattle.fts_script.specs.Sessions.{IsCrowded, HasFewSessions}
use Rattle.fts_steps.specs.FaultCounts.{OneRose, CountsFaultOf}
use Rattle.fts_steps.specs.State.{State, IsRows, IsIndex, IsDatabase, IsRight, IsCreated, created_with}
use Rattle.fts_steps.specs.Running.{opened}
use Rattle.fts_types.specs.declared.limits.Limits.{Limits}
use Rattle.fts_types.specs.declared.settings.Settings.{Settings}
use Rattle.fts_faults.specs.Count.{CountsFault, Rose}
use Rattle.fts_disk.specs.Crash.{Only}
use Rattle.fts_disk.specs.Moments.{Looks}
use Rattle.fts_disk.specs.declared.disk.Disk as disk
use Rattle.fts_io.specs.declared.source.Source as source
use Rattle.fts_io.specs.declared.sink.Sink as sink
use Rattle.fts_engine.specs.declared.error.OpenError.{OpenError}
use Rattle.fts_engine.specs.declared.error.OpenError.TheVariants as opening
use Rattle.fts_engine.specs.declared.error.Device.TheVariants.{Rows, Index}
use Rattle.fts_engine.specs.Opening.{IsDamaged, IsIndexDamaged}
use Rattle.fts_engine.specs.Devices.{Devices, devices_of, Disks, disk_faults, DisksTell, device_sight}
use Rattle.fts_args.specs.Asked.{Asks}
use Rattle.fts_args.specs.declared.command.Command.{Command}
use Rattle.fts_args.specs.declared.command.Command.TheVariants.{Create, Run, Serve, Gen}
use Rattle.fts_top.specs.declared.status.Status.{Status}
use Rattle.fts_top.specs.declared.status.Status.TheVariants as status
use Rattle.fts_top.specs.declared.ends.RunEnd.{RunEnd}
use Rattle.fts_top.specs.declared.ends.RunEnd.TheVariants as run_end
use Rattle.fts_top.specs.declared.ends.CreateEnd.{CreateEnd}
use Rattle.fts_top.specs.declared.ends.CreateEnd.TheVariants as create_end
use Rattle.fts_top.specs.Ends.{status_of_run, status_of_create, status_of_opening}
use Rattle.fts_top.specs.Health.{IsRead}
use Rattle.fts_top.specs.Run.{Sides, Outcome, PassesLimit}

-- a source at one time: whether it tells its bytes, which it has left, and how many faults there were
pub record SourceSeen : Type 0 where
  pub tells : Bool
  pub left : List ℕ
  pub faults : ℕ

-- a sink: which bytes it holds
pub record SinkSeen : Type 0 where
  pub tells : Bool
  pub held : List ℕ
  pub faults : ℕ

-- the outside at one time
pub record Outside (D E : Type 0) : Type 0 where
  pub source : SourceSeen
  pub sink : SinkSeen
  pub devices : Devices D E

abbrev pub source_seen : {I : Type 0} → source.Ghosts I → I → SourceSeen
source_seen ghosts input = record { tells = ghosts.tells; left = ghosts.left input; faults = ghosts.faults input }

abbrev pub sink_seen : {O : Type 0} → sink.Ghosts O → O → SinkSeen
sink_seen ghosts out = record { tells = ghosts.tells; held = ghosts.holds out; faults = ghosts.faults out }

abbrev pub outside : {I O D E : Type 0} → source.Ghosts I → sink.Ghosts O → I → O → D → E → Outside D E
outside source sink input out rows index = record {
  source = source_seen source input;
  sink = sink_seen sink out;
  devices = devices_of rows index;
}

-- a log's file, as its device reads
abbrev pub file_of : {D : Type 0} → disk.Ghosts D → D → List ℕ
file_of ghosts device = ghosts.seen device 0

-- the two logs are those of the database
abbrev pub DisksHold : {D E : Type 0} → Disks D E → State → Devices D E → Type 0
DisksHold disks state here = IsDatabase state (file_of disks.rows here.rows) (disks.index.seen here.index)

-- a run seen from outside: the devices in place of the steps
abbrev pub seen_from : {D E : Type 0} → Outside D E → Sides (Devices D E)
seen_from here = record { left = here.source.left; held = here.sink.held; steps = here.devices }

-- a script was executed on the database that the opening found, and ended so
pub record Executed {D E : Type 0} (disks : Disks D E) (limits : Limits) (end : RunEnd) (before after : Outside D E)
    : Type 0 where
  pub found : DisksTell disks → (state : State) × DisksHold disks state before.devices
  pub outcome : IsTrue before.source.tells → IsTrue before.sink.tells → DisksTell disks
      → (start : State) → DisksHold disks start before.devices
      → Outcome (device_sight disks start.settings limits) end (opened start) (lines_of before.source.left)
      (seen_from before) (seen_from after)
  pub whole : IsRead end → IsTrue before.source.tells → length before.source.left ≤ 2 ^ 40
  pub crowded : (number : ℕ) → end ≡ run_end.TooManySessions number → IsTrue before.source.tells
      → IsCrowded (lines_of before.source.left) number
  pub too_long : (lines bytes : ℕ) → end ≡ run_end.ScriptTooLong lines bytes → IsTrue before.source.tells
      → PassesLimit bytes before.source.left after.source.left
  pub fault : IsRead end
      → CountsFaultOf (end ≡ run_end.DiskFault) (disk_faults disks before.devices) (disk_faults disks after.devices)

-- why no database was opened; what is said of the rows log alone needs a rows device that tells, and no more
abbrev pub IsWhy : {D E : Type 0} → Disks D E → OpenError → Devices D E → Type 0
IsWhy disks opening.NotCreated here = IsTrue disks.rows.tells → IsCreated (file_of disks.rows here.rows) → ⊥
IsWhy disks (opening.Damaged Rows file at) here =
    (file ≡ 0) × (IsTrue disks.rows.tells → IsDamaged at (file_of disks.rows here.rows))
IsWhy disks (opening.Damaged Index file at) here = (file ≡ 0)
    × (DisksTell disks → IsIndexDamaged at (file_of disks.rows here.rows) (file_of disks.index here.index))
IsWhy disks opening.NoMemory here = Unit {0}
IsWhy disks opening.DiskFault here = Unit {0}

-- each device reads as before, and a crash leaves what it could leave
pub record OnlyLooked {D E : Type 0} (disks : Disks D E) (before after : Devices D E) : Type 0 where
  pub rows : IsTrue disks.rows.tells → Looks disks.rows before.rows after.rows
  pub index : IsTrue disks.index.tells → Looks disks.index before.index after.index

-- no database was opened, for this cause; `unused` says that the source and the sink are as they were
pub record Unopened {D E : Type 0} (disks : Disks D E) (error : OpenError) (unused : Type 0)
    (before after : Devices D E) : Type 0 where
  pub untouched : unused
  pub looked : OnlyLooked disks before after
  pub why : IsWhy disks error before
  pub fault : CountsFaultOf (error ≡ opening.DiskFault) (disk_faults disks before) (disk_faults disks after)

-- how `run` ended
abbrev pub RunEnds : {D E : Type 0} → Disks D E → Limits → Status → Type 0 → Outside D E → Outside D E → Type 0
RunEnds disks limits result unused before after =
    ((end : RunEnd) × (result ≡ status_of_run end) × Executed disks limits end before after)
    ⊎ ((error : OpenError) × (result ≡ status_of_opening error)
    × Unopened disks error unused before.devices after.devices)

-- what `create` writes
abbrev pub created_text : List ℕ
created_text = codes "OK created" ++ 10 ∷ []

-- the two logs of a database without commits were made where none was created, and a crash leaves each. The index is
-- right
pub record Made {D E : Type 0} (disks : Disks D E) (settings : Settings) (before after : Devices D E) : Type 0 where
  pub fresh : IsTrue disks.rows.tells → IsCreated (file_of disks.rows before.rows) → ⊥
  pub rows : IsTrue disks.rows.tells → IsRows (created_with settings) (file_of disks.rows after.rows)
      × Only (disks.rows.seen after.rows) (disks.rows.images after.rows)
  pub index : IsTrue disks.index.tells → IsIndex (created_with settings) (disks.index.seen after.index)
      × Only (disks.index.seen after.index) (disks.index.images after.index)
  pub right : IsRight (created_with settings)

-- what `create` has done to the sink and the devices; `unwritten` says that the sink is as it was
abbrev pub Creates : {D E : Type 0} → Disks D E → CreateEnd → Settings → Type 0 → SinkSeen → SinkSeen → Devices D E
    → Devices D E → Type 0
Creates disks create_end.Done settings unwritten sink sink' before after = Made disks settings before after
    × (IsTrue sink.tells → sink'.held ≡ sink.held ++ created_text)
Creates disks create_end.WriteFault settings unwritten sink sink' before after = Made disks settings before after
    × (IsTrue sink.tells → (n : ℕ) × (sink'.held ≡ sink.held ++ take n created_text))
Creates disks create_end.AlreadyCreated settings unwritten sink sink' before after = unwritten
    × (IsTrue disks.rows.tells → IsCreated (file_of disks.rows before.rows))
    × OnlyLooked disks before after
Creates disks create_end.NoMemory settings unwritten sink sink' before after = unwritten × (after ≡ before)
Creates disks create_end.DiskFault settings unwritten sink sink' before after = unwritten
    × (IsTrue disks.rows.tells → IsCreated (file_of disks.rows before.rows) → OnlyLooked disks before after)

-- how `create` ended
pub record CreateEnds {D E : Type 0} (disks : Disks D E) (result : Status) (settings : Settings) (unwritten : Type 0)
    (before after : Outside D E) : Type 0 where
  pub end : CreateEnd
  pub told : result ≡ status_of_create end
  pub creates : Creates disks end settings unwritten before.sink after.sink before.devices after.devices
  pub fault : CountsFaultOf (end ≡ create_end.DiskFault) (disk_faults disks before.devices)
      (disk_faults disks after.devices)

-- the words ask for no command, or for the one that takes threads
abbrev pub AskNothingOnce : List (List ℕ) → Type 0
AskNothingOnce words = (command : Command) → Asks words command → command ≡ Serve

-- a fault of the source and of the sink was counted exactly where it is the status
pub record CountsFaults {D E : Type 0} (result : Status) (before after : Outside D E) : Type 0 where
  pub read : CountsFault (result ≡ status.ReadFault) before.source.faults after.source.faults
  pub write : CountsFault (result ≡ status.WriteFault) before.sink.faults after.sink.faults

-- no count of faults rose
pub record NoneRose {D E : Type 0} (disks : Disks D E) (before after : Outside D E) : Type 0 where
  pub read : Rose before.source.faults after.source.faults → ⊥
  pub write : Rose before.sink.faults after.sink.faults → ⊥
  pub disk : OneRose (disk_faults disks before.devices) (disk_faults disks after.devices) → ⊥

-- all was done, but for want of memory
abbrev pub Finishes : Status → Type 0
Finishes result = (result ≡ status.Done) ⊎ (result ≡ status.NoMemory)

-- the words are a command that fits the devices: `create` where no database was created, or `run` on a database, with a
-- script of at most 2^40 bytes, of 16 sessions at most, or `gen` on a database
abbrev pub CanFinish : {D E : Type 0} → Disks D E → List (List ℕ) → Outside D E → Type 0
CanFinish disks words before =
    ((settings : Settings) × Asks words (Create settings) × IsTrue disks.rows.tells
    × (IsCreated (file_of disks.rows before.devices.rows) → ⊥))
    ⊎ ((Asks words Run × IsTrue before.source.tells × DisksTell disks
    × ((state : State) × DisksHold disks state before.devices) × (length before.source.left ≤ 2 ^ 40)
    × HasFewSessions (lines_of before.source.left))
    ⊎ (((seed : ℕ) × (statements : ℕ) × Asks words (Gen seed statements)) × DisksTell disks
    × ((state : State) × DisksHold disks state before.devices)))
