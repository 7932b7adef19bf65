-- What the whole records of a file are.
use Rattle.std.specs.Prelude.{◌≡◌, ℕ, List, length, Result, Ok, Err}
use Rattle.fts_disk.specs.Crash.{OnlyIn}
use Rattle.fts_disk.specs.Moments.{Looks}
use Rattle.fts_disk.specs.declared.disk.Disk.{Ghosts}
use Rattle.fts_log.specs.Scan.{IsFoundIn}
use Rattle.fts_log.specs.declared.records.Records.{Records}

-- the device on which they stand
abbrev pub records_device : {D : Type 0} {disk : Ghosts D} → Records D disk → D
records_device records = records.device

-- the bytes with which the file begins
abbrev pub records_magic : {D : Type 0} {disk : Ghosts D} → Records D disk → List ℕ
records_magic records = records.magic

-- how many there are
abbrev pub record_count : {D : Type 0} {disk : Ghosts D} → Records D disk → ℕ
record_count records = length records.found.ends.items

-- the device behind a call that reads records of it: theirs, or the one that is handed back
abbrev pub device_behind : {D E : Type 0} {disk : Ghosts D} → Result (Records D disk) (E × D) → D
device_behind (Ok records) = records_device records
device_behind (Err error) = error.1

-- they are the records of these entries; a crash leaves file 0 as it reads
pub record Hold {D : Type 0} {disk : Ghosts D} (entries : List (List ℕ)) (records : Records D disk) : Type 0 where
  pub found : IsFoundIn (records_magic records) entries (disk.seen (records_device records) 0) records.found
  pub durable : OnlyIn 0 (disk.seen (records_device records)) (disk.images (records_device records))

-- records were read: the device was looked at, and they are the records of the same entries
pub record AreRead {D : Type 0} {disk : Ghosts D} (old new : Records D disk) : Type 0 where
  pub looks : Looks disk (records_device old) (records_device new)
  pub stays : (entries : List (List ℕ)) → Hold entries old → Hold entries new

-- there are as many, behind the same magic
pub record AreAsMany {D : Type 0} {disk : Ghosts D} (old new : Records D disk) : Type 0 where
  pub count : record_count new ≡ record_count old
  pub magic : records_magic new ≡ records_magic old
