-- What `serve` has done.
use Rattle.std.specs.Prelude.{◌≡◌, ◌⊎◌, ◌≤◌, ◌^◌, Bool, true, false, ℕ, List, [], length, IsTrue}
use Rattle.std.specs.Prelude.{Result, Ok, Err, Option}
use Rattle.fts_types.specs.declared.limits.Limits.{Limits}
use Rattle.fts_disk.specs.declared.disk.Disk.{Ghosts}
use Rattle.fts_io.specs.Text.{Line, lines_of}
use Rattle.fts_schema.specs.declared.reply.Reply.{Reply}
use Rattle.fts_script.specs.Group.{IsGrouping}
use Rattle.fts_script.specs.Merge.{IsMerged}
use Rattle.fts_script.specs.Reading.{IsTooLong}
use Rattle.fts_script.specs.Sessions.{IsCrowded, HasFewSessions}
use Rattle.fts_steps.specs.FaultCounts.{FaultCounts, CountsFaultOf}
use Rattle.fts_steps.specs.Running.{opened}
use Rattle.fts_steps.specs.State.{State}
use Rattle.fts_engine.specs.declared.engine.Engine.{Engine}
use Rattle.fts_engine.specs.declared.error.OpenError.{OpenError}
use Rattle.fts_engine.specs.Devices.{Devices, devices_of, Disks, disks_of, disk_faults, DisksTell}
use Rattle.fts_engine.specs.Stands.{Holds, engine_limits, rows_device, index_device}
use Rattle.fts_workers.specs.declared.health.Health.{Health}
use Rattle.fts_workers.specs.declared.health.Health.TheVariants.{Sound, Short, Failed}
use Rattle.fts_workers.specs.Health.{worse, health_of_all}
use Rattle.fts_shared.specs.declared.served.Served.{Served}
use Rattle.fts_shared.specs.declared.work.Work.{Work}
use Rattle.fts_shared.specs.Served.{AreServed}
use Rattle.fts_shared.specs.Work.{shares_in, replies_in}
use Rattle.fts_args.specs.Asked.{Asks}
use Rattle.fts_args.specs.declared.command.Command.TheVariants.{Serve}
use Rattle.fts_top.specs.declared.ends.RunEnd.{RunEnd}
use Rattle.fts_top.specs.declared.ends.RunEnd.TheVariants as run_end
use Rattle.fts_top.specs.declared.ends.Unsent.TheVariants as unsent
use Rattle.fts_top.specs.declared.serve.Faults.{Faults}
use Rattle.fts_top.specs.declared.status.Status.{Status}
use Rattle.fts_top.specs.Answers.{told, SendsAll}
use Rattle.fts_top.specs.Ends.{status_of_run, status_of_opening}
use Rattle.fts_top.specs.Health.{IsRead}
use Rattle.fts_top.specs.Once.{SourceSeen, SinkSeen, Outside, DisksHold, OnlyLooked, Unopened}

-- the counts of faults of both devices, as the program keeps them
abbrev pub counts_in : Faults → FaultCounts
counts_in faults = (faults.rows, faults.index)

-- the script was read whole: these are its lines, and this is the work of its sessions
pub record IsWork (lines : List Line) (works : List Work) (source source' : SourceSeen) : Type 0 where
  pub read : IsTrue source.tells → lines ≡ lines_of source.left
  pub empty : IsTrue source.tells → source'.left ≡ []
  pub short : IsTrue source.tells → length source.left ≤ 2 ^ 40
  pub few : length lines ≤ 100000
  pub grouped : IsGrouping lines (shares_in works)

-- why no line was executed
abbrev pub IsUnread : RunEnd → SourceSeen → SourceSeen → Type 0
IsUnread run_end.NoMemory source source' = Unit {0}
IsUnread run_end.ReadFault source source' = Unit {0}
IsUnread (run_end.ScriptTooLong lines bytes) source source' =
    IsTrue source.tells → IsTooLong lines bytes source.left source'.left
IsUnread (run_end.TooManySessions number) source source' =
    IsTrue source.tells → IsCrowded (lines_of source.left) number
IsUnread end source source' = ⊥

-- the end of a script whose lines and workers met this, and beside which no device failed
abbrev pub calm_end : Health → RunEnd
calm_end Sound = run_end.Done
calm_end Short = run_end.ShortOfMemory
calm_end Failed = run_end.ShortOfMemory

-- the end, by whether a device failed
abbrev pub end_of : Bool → Health → RunEnd
end_of true met = run_end.DiskFault
end_of false met = calm_end met

-- what was written of these replies, by the end; the workers met this
abbrev pub Writes : RunEnd → Health → List Reply → SinkSeen → SinkSeen → Type 0
Writes run_end.NoMemory met replies sink sink' =
    IsTrue sink.tells → SendsAll (Err unsent.NoMemory) replies sink.held sink'.held
Writes run_end.WriteFault met replies sink sink' =
    IsTrue sink.tells → SendsAll (Err unsent.WriteFault) replies sink.held sink'.held
Writes end met replies sink sink' =
    ((has_failed : Bool) × (end ≡ end_of has_failed (worse met (health_of_all replies))))
    × (IsTrue sink.tells → SendsAll (Ok tt) replies sink.held sink'.held)

-- the replies were written in the order of the lines; or nothing was, for want of memory to put them into it
abbrev pub Answers : RunEnd → List Line → List Work → Health → SinkSeen → SinkSeen → Type 0
Answers end lines works met sink sink' =
    ((end ≡ run_end.NoMemory) × (sink' ≡ sink))
    ⊎ ((all : List (Option Reply)) × IsMerged lines (shares_in works) (replies_in works) all
    × Writes end met (told all) sink sink')

abbrev pub engine_devices : {D E : Type 0} {rows : Ghosts D} {index : Ghosts E} → Engine D E rows index → Devices D E
engine_devices engine = devices_of (rows_device engine) (index_device engine)

module _ {D E : Type 0} (rows : Ghosts D) (index : Ghosts E) where
  -- no line was executed: nothing was written, and the devices are as the opening left them
  pub record NotServed (end : RunEnd) (first : Engine D E rows index) (before after : Outside D E) : Type 0 where
    pub why : IsUnread end before.source after.source
    pub unwritten : after.sink ≡ before.sink
    pub closed : after.devices ≡ engine_devices first

  -- all lines were executed, and answered
  pub record WasServed (end : RunEnd) (first : Engine D E rows index) (before after : Outside D E) : Type 0 where
    pub lines : List Line
    pub works : List Work
    pub work : IsWork lines works before.source after.source
    pub served : Served D E rows index
    pub are : AreServed lines first works served
    pub closed : after.devices ≡ engine_devices served.engine
    pub answers : Answers end lines served.works.items served.met before.sink after.sink

  -- the opening found what is there, and looked at the devices alone
  pub record WasOpened (limits : Limits) (first : Engine D E rows index) (before : Devices D E) : Type 0 where
    pub found : DisksTell (disks_of rows index) → (state : State) × DisksHold (disks_of rows index) state before
    pub holds : DisksTell (disks_of rows index) → (start : State) → DisksHold (disks_of rows index) start before
        → Holds (opened start) first
    pub limits_are : engine_limits first ≡ limits
    pub looked : OnlyLooked (disks_of rows index) before (engine_devices first)
    pub calm : disk_faults (disks_of rows index) (engine_devices first) ≡ disk_faults (disks_of rows index) before

  -- a script was served on the database that the opening found, and ended so
  pub record Serves (limits : Limits) (end : RunEnd) (before after : Outside D E) : Type 0 where
    pub first : Engine D E rows index
    pub opened : WasOpened limits first before.devices
    pub ends : NotServed end first before after ⊎ WasServed end first before after
    pub fault : IsRead end → CountsFaultOf (end ≡ run_end.DiskFault)
        (disk_faults (disks_of rows index) before.devices) (disk_faults (disks_of rows index) after.devices)

  -- how `serve` ended
  abbrev pub ServesEnd : Limits → Status → Type 0 → Outside D E → Outside D E → Type 0
  ServesEnd limits result unused before after =
      ((end : RunEnd) × (result ≡ status_of_run end) × Serves limits end before after)
      ⊎ ((error : OpenError) × (result ≡ status_of_opening error)
      × Unopened (disks_of rows index) error unused before.devices after.devices)

-- the words are `serve` on a database, with a script of at most 2^40 bytes and 100,000 lines, of 16 sessions at most
pub record CanServe {D E : Type 0} (disks : Disks D E) (words : List (List ℕ)) (before : Outside D E) : Type 0 where
  pub asked : Asks words Serve
  pub tells : IsTrue before.source.tells
  pub tell : DisksTell disks
  pub state : State
  pub holds : DisksHold disks state before.devices
  pub short : length before.source.left ≤ 2 ^ 40
  pub few : length (lines_of before.source.left) ≤ 100000
  pub sessions : HasFewSessions (lines_of before.source.left)
