-- The two devices of a database, and the steps on it as these show them.
use Rattle.std.specs.Prelude.{false, IsTrue}
use Rattle.fts_types.specs.declared.limits.Limits.{Limits}
use Rattle.fts_types.specs.declared.settings.Settings.{Settings}
use Rattle.fts_disk.specs.declared.disk.Disk as disk
use Rattle.fts_steps.specs.FaultCounts.{FaultCounts}
use Rattle.fts_steps.specs.Step.{Sight, no_account}
use Rattle.fts_engine.specs.Stands.{OnRows, OnIndex}

-- the two devices at one time
pub record Devices (D E : Type 0) : Type 0 where
  pub rows : D
  pub index : E

abbrev pub devices_of : {D E : Type 0} → D → E → Devices D E
devices_of rows index = record { rows = rows; index = index }

-- what contracts see of the two devices
pub record Disks (D E : Type 0) : Type 1 where
  pub rows : disk.Ghosts D
  pub index : disk.Ghosts E

abbrev pub disks_of : {D E : Type 0} → disk.Ghosts D → disk.Ghosts E → Disks D E
disks_of rows index = record { rows = rows; index = index }

-- how many faults each of the two devices had
abbrev pub disk_faults : {D E : Type 0} → Disks D E → Devices D E → FaultCounts
disk_faults disks here = (disks.rows.faults here.rows, disks.index.faults here.index)

-- both devices tell what they hold
abbrev pub DisksTell : {D E : Type 0} → Disks D E → Type 0
DisksTell disks = IsTrue disks.rows.tells × IsTrue disks.index.tells

-- steps, seen by the devices alone: they have the two logs of what runs
abbrev pub device_sight : {D E : Type 0} → Disks D E → Settings → Limits → Sight (Devices D E)
device_sight {D} {E} disks settings limits = record {
  is_shared = false;
  Place = Unit {0};
  place = λ devices. tt;
  account = λ devices. no_account;
  settings = λ devices. settings;
  limits = λ devices. limits;
  faults = disk_faults disks;
  stands = λ running here. OnRows disks.rows running here.rows × OnIndex disks.index running here.index;
  rows = record { Device = D; disk = disks.rows; device = λ here. here.rows };
  index = record { Device = E; disk = disks.index; device = λ here. here.index };
}
