-- What a crash at any moment of a run of calls leaves.
use Rattle.std.specs.Prelude.{◌≡◌, ◌⊎◌, ℕ, ◌≤◌}
use Rattle.fts_disk.specs.Device.{Files}
use Rattle.fts_disk.specs.Crash.{Images, Within}
use Rattle.fts_disk.specs.declared.disk.Disk.{Ghosts}

-- a crash at any moment from the device's old state to its new one leaves files of which this holds
pub record LeavesOnly {D : Type 0} (disk : Ghosts D) (old new : D) (P : Images) : Type 0 where
  pub later : disk.moment old ≤ disk.moment new
  pub each : (c : Files) → disk.left_since new (disk.moment old) c → P c
  -- of a run that began earlier, nothing else is added
  pub before : (t : ℕ) (c : Files) → t ≤ disk.moment old → disk.left_since new t c → disk.left_since old t c ⊎ P c

-- a crash during the calls or after them leaves what it could leave before
pub record LeavesAsBefore {D : Type 0} (disk : Ghosts D) (old new : D) : Type 0 where
  pub within : Within (disk.images old) (disk.images new)
  pub any_moment : LeavesOnly disk old new (disk.images old)

-- calls that only look: the device reads as before, and a crash during them or after them leaves what it could leave
-- before
pub record Looks {D : Type 0} (disk : Ghosts D) (old new : D) : Type 0 where
  pub seen : disk.seen new ≡ disk.seen old
  pub crash : LeavesAsBefore disk old new
