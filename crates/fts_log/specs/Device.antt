-- What calls leave of a device.
use Rattle.std.specs.Prelude.{◌≡◌, ◌≢◌, ℕ}
use Rattle.fts_disk.specs.Device.{Files}

-- all files but file 0 read as before
abbrev pub SameOthers : Files → Files → Type 0
SameOthers old new = (file : ℕ) → file ≢ 0 → new file ≡ old file
