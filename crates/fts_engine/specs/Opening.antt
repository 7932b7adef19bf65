use Rattle.std.specs.Prelude.{◌≡◌, ℕ, List, codes, Result, Ok, Err}
use Rattle.fts_disk.specs.declared.disk.Disk.{Ghosts}
use Rattle.fts_log.specs.Records.{records_device}
use Rattle.fts_log.specs.declared.records.Records.{Records}
use Rattle.fts_steps.specs.State.{State, IsCreated, IsRows}
use Rattle.fts_steps.specs.Fault.{IsFaultAt, IsIndexFaultAt}
use Rattle.fts_log.specs.declared.error.EntryError.{EntryError}
use Rattle.fts_log.specs.declared.error.EntryError.TheVariants as entry
use Rattle.fts_engine.specs.declared.error.Device.{Device}
use Rattle.fts_engine.specs.declared.error.Device.TheVariants.{Rows, Index}
use Rattle.fts_engine.specs.declared.error.OpenError.{OpenError}
use Rattle.fts_engine.specs.declared.error.OpenError.TheVariants as opening
use Rattle.fts_engine.specs.declared.error.RowsError.{RowsError}
use Rattle.fts_engine.specs.declared.error.RowsError.TheVariants as rows
use Rattle.fts_engine.specs.declared.error.LoadError.{LoadError}
use Rattle.fts_engine.specs.declared.error.LoadError.TheVariants as load
use Rattle.fts_engine.specs.declared.error.ReadError.{ReadError}
use Rattle.fts_engine.specs.declared.error.ReadError.TheVariants.{NoMemory, Damaged, DiskFault}

-- the name of a device
abbrev pub device_text : Device → List ℕ
device_text Rows = codes "rows"
device_text Index = codes "index"

-- why both logs were not taken of which this device has the one
abbrev pub load_error_of : Device → ReadError → LoadError
load_error_of device NoMemory = load.NoMemory
load_error_of device (Damaged at) = load.Damaged device at
load_error_of device DiskFault = load.DiskFault

-- why a database was not opened whose two logs were not taken
abbrev pub open_error_of : LoadError → OpenError
open_error_of load.NoMemory = opening.NoMemory
open_error_of (load.Damaged device at) = opening.Damaged device 0 at
open_error_of load.DiskFault = opening.DiskFault

-- why a database was not opened whose rows log was not
abbrev pub open_error_of_rows : RowsError → OpenError
open_error_of_rows rows.NoMemory = opening.NoMemory
open_error_of_rows rows.NotCreated = opening.NotCreated
open_error_of_rows (rows.Damaged at) = opening.Damaged Rows 0 at
open_error_of_rows rows.DiskFault = opening.DiskFault

-- a log's reading ends with the same cause as that of an entry
abbrev pub IsSameEntryError : EntryError → ReadError → Type 0
IsSameEntryError entry.NoMemory error = error ≡ NoMemory
IsSameEntryError entry.DiskFault error = error ≡ DiskFault

-- the device behind a call that makes a log on it
abbrev pub device_behind : {D : Type 0} → Result D D → D
device_behind (Ok device) = device
device_behind (Err device) = device

-- the devices behind a call that makes a database on them
abbrev pub rows_behind : {D E X : Type 0} → Result (D × E) (X × D × E) → D
rows_behind (Ok devices) = devices.0
rows_behind (Err error) = error.1

abbrev pub index_behind : {D E X : Type 0} → Result (D × E) (X × D × E) → E
index_behind (Ok devices) = devices.1
index_behind (Err error) = error.2

-- the device behind the reading of a log's records: theirs, or the one that is handed back
abbrev pub records_left : {D E : Type 0} {disk : Ghosts D} → Result (Records D disk) (E × D) → D
records_left (Ok records) = records_device records
records_left (Err error) = error.1

-- the file is no rows log of a database
abbrev pub IsNoRows : List ℕ → Type 0
IsNoRows file = (state : State) → IsRows state file → ⊥

-- a database was created in the rows log, which is none; this is the first place at fault
pub record IsDamaged (at : ℕ) (rows : List ℕ) : Type 0 where
  pub created : IsCreated rows
  pub none : IsNoRows rows
  pub place : IsFaultAt at rows

-- the rows log is a database's, and the index log is not; this is its first place at fault
pub record IsIndexDamaged (at : ℕ) (rows index : List ℕ) : Type 0 where
  pub state : State
  pub of_rows : IsRows state rows
  pub place : IsIndexFaultAt state at index
