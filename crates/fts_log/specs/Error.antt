-- How causes are handed on.
use Rattle.fts_log.specs.declared.error.EntryError.{EntryError}
use Rattle.fts_log.specs.declared.error.EntryError.TheVariants as entry
use Rattle.fts_log.specs.declared.error.OpenError.{OpenError}
use Rattle.fts_log.specs.declared.error.OpenError.TheVariants as opening

-- a read's cause, as the opening tells it
abbrev pub open_error_of : EntryError → OpenError
open_error_of entry.NoMemory = opening.NoMemory
open_error_of entry.DiskFault = opening.DiskFault
