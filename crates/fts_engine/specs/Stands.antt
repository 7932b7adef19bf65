use Rattle.std.specs.Prelude.{◌≡◌, ℕ, List, [], false, length, Result, Ok, Err, Option, None, IsTrue}
use Rattle.fts_disk.specs.Device.{Files}
use Rattle.fts_disk.specs.declared.disk.Disk.{Ghosts}
use Rattle.fts_log.specs.declared.log.Log.{Log}
use Rattle.fts_log.specs.Record.{log_end}
use Rattle.fts_log.specs.Log.{StandsFor, device_of, magic_of, limit_of, count_of, end_of}
use Rattle.fts_types.specs.declared.limits.Limits.{Limits}
use Rattle.fts_types.specs.declared.settings.Settings.{Settings}
use Rattle.fts_types.specs.Limits.{standard_limits}
use Rattle.fts_commits.specs.Commit.{replay}
use Rattle.fts_steps.specs.FaultCounts.{FaultCounts}
use Rattle.fts_steps.specs.State.{State, payloads, index_payloads, rows_magic, index_magic, index_state, IsSound}
use Rattle.fts_steps.specs.State.{HasEntries, IsRows, IsIndex}
use Rattle.fts_steps.specs.Running.{Running}
use Rattle.fts_steps.specs.Crash.{MayHold, MayHoldIndex}
use Rattle.fts_steps.specs.Step.{Sight, no_account}
use Rattle.fts_engine.specs.declared.engine.Engine.{Engine}
use Rattle.fts_engine.specs.Bounds.{AreWithin}
use Rattle.fts_engine.specs.Kept.{kept_settings, kept_rows, kept_limits, IsIndexed}

-- the settings of its database
abbrev pub engine_settings : {D E : Type 0} {rows : Ghosts D} {index : Ghosts E} → Engine D E rows index → Settings
engine_settings engine = kept_settings engine.kept

-- the sum of the counts of faults at the fault that stopped it, if one did
abbrev pub stopped_at : {D E : Type 0} {rows : Ghosts D} {index : Ghosts E} → Engine D E rows index → Option ℕ
stopped_at engine = engine.stopped

-- the limits of its commits
abbrev pub engine_limits : {D E : Type 0} {rows : Ghosts D} {index : Ghosts E} → Engine D E rows index → Limits
engine_limits engine = kept_limits engine.kept

-- its two logs
abbrev pub rows_log : {D E : Type 0} {rows : Ghosts D} {index : Ghosts E} → Engine D E rows index → Log D rows
rows_log engine = engine.rows

abbrev pub index_log : {D E : Type 0} {rows : Ghosts D} {index : Ghosts E} → Engine D E rows index → Log E index
index_log engine = engine.index

-- the devices on which they stand
abbrev pub rows_device : {D E : Type 0} {rows : Ghosts D} {index : Ghosts E} → Engine D E rows index → D
rows_device engine = device_of engine.rows

abbrev pub index_device : {D E : Type 0} {rows : Ghosts D} {index : Ghosts E} → Engine D E rows index → E
index_device engine = device_of engine.index

-- how many faults each of the two devices had
abbrev pub engine_faults : {D E : Type 0} {rows : Ghosts D} {index : Ghosts E} → Engine D E rows index
    → FaultCounts
engine_faults {rows} {index} engine = (rows.faults (device_of engine.rows), index.faults (device_of engine.index))

-- the devices behind an opening: the engine's, or those that are handed back
abbrev pub rows_left : {D E X : Type 0} {rows : Ghosts D} {index : Ghosts E}
    → Result (Engine D E rows index) (X × D × E) → D
rows_left (Ok engine) = rows_device engine
rows_left (Err error) = error.1

abbrev pub index_left : {D E X : Type 0} {rows : Ghosts D} {index : Ghosts E}
    → Result (Engine D E rows index) (X × D × E) → E
index_left (Ok engine) = index_device engine
index_left (Err error) = error.2

-- a log of these payloads in memory, whatever its device holds: its own numbers are theirs
pub record KeepsLog {D : Type 0} {disk : Ghosts D} (magic : List ℕ) (entries : List (List ℕ)) (limit : ℕ)
    (log : Log D disk) : Type 0 where
  pub count : count_of log ≡ length entries
  pub «end» : end_of log ≡ log_end magic entries
  pub begins : magic_of log ≡ magic
  pub limited : limit_of log ≡ limit

-- the engine keeps the state in memory, whatever its devices hold: its settings, its rows, and its logs' own numbers
pub record Keeps {D E : Type 0} {disk : Ghosts D} {disk' : Ghosts E} (state : State) (engine : Engine D E disk disk')
    : Type 0 where
  pub sound : IsSound state
  pub entries : HasEntries state
  pub settings : state.settings ≡ kept_settings engine.kept
  pub rows : kept_rows engine.kept ≡ replay state.commits
  pub within : AreWithin standard_limits (engine_limits engine)
  pub log : KeepsLog rows_magic (payloads state) (engine_limits engine).log_bytes engine.rows
  pub index : KeepsLog index_magic (index_payloads state) (engine_limits engine).log_bytes engine.index

-- the rows device reads as the database of what runs, and a crash leaves it; where a fault stopped the engine, perhaps
-- with the commit in doubt
pub record OnRows {D : Type 0} (disk : Ghosts D) (running : Running) (device : D) : Type 0 where
  pub reads : running.stopped ≡ None → IsRows running.state (disk.seen device 0)
  pub may_read : MayHold running.state running.doubt (disk.seen device)
  pub crash : (c : Files) → disk.images device c → MayHold running.state running.doubt c

-- and so does the index device, perhaps with the entry in doubt
pub record OnIndex {E : Type 0} (disk : Ghosts E) (running : Running) (device : E) : Type 0 where
  pub reads : running.stopped ≡ None → IsIndex running.state (disk.seen device)
  pub may_read : MayHoldIndex running.state running.loose (disk.seen device)
  pub crash : (c : Files) → disk.images device c → MayHoldIndex running.state running.loose c

-- while no fault stopped the engine, the rows log has the state's commits, and none is in doubt
pub record Logs {D : Type 0} {disk : Ghosts D} (running : Running) (log : Log D disk) : Type 0 where
  pub entries : StandsFor (payloads running.state) log
  pub sure : running.doubt ≡ []

-- and the index log has its entries
pub record IndexLogs {E : Type 0} {disk : Ghosts E} (running : Running) (log : Log E disk) : Type 0 where
  pub entries : StandsFor (index_payloads running.state) log
  pub sure : running.loose ≡ []

-- the engine has what runs in memory: it keeps the state, and its index stands for the state that the entries leave
pub record Has {D E : Type 0} {rows : Ghosts D} {index : Ghosts E} (running : Running) (engine : Engine D E rows index)
    : Type 0 where
  pub keeps : Keeps running.state engine
  pub indexed : IsIndexed engine.kept running.state.commits running.index
  pub left : running.index ≡ index_state running.state
  pub stopped : stopped_at engine ≡ running.stopped

-- the engine holds what runs: it has it in memory, and where a device tells, its log holds the state
pub record Holds {D E : Type 0} {rows : Ghosts D} {index : Ghosts E} (running : Running)
    (engine : Engine D E rows index) : Type 0 where
  pub has : Has running engine
  pub logs : IsTrue rows.tells → running.stopped ≡ None → Logs running engine.rows
  pub index_logs : IsTrue index.tells → running.stopped ≡ None → IndexLogs running engine.index
  pub on_rows : IsTrue rows.tells → OnRows rows running (rows_device engine)
  pub on_index : IsTrue index.tells → OnIndex index running (index_device engine)

-- what contracts see of an engine that one thread owns
abbrev pub engine_sight : {D E : Type 0} {rows : Ghosts D} {index : Ghosts E} → Sight (Engine D E rows index)
engine_sight {D} {E} {rows} {index} = record {
  is_shared = false;
  Place = Unit {0};
  place = λ engine. tt;
  account = λ engine. no_account;
  settings = engine_settings;
  limits = engine_limits;
  faults = engine_faults;
  stands = Holds;
  rows = record { Device = D; disk = rows; device = rows_device };
  index = record { Device = E; disk = index; device = index_device };
}
