use Rattle.fts_engine.specs.declared.error.OpenError.{OpenError}
use Rattle.fts_engine.specs.declared.error.OpenError.TheVariants as opening
use Rattle.fts_script.specs.declared.error.ScriptError.{ScriptError}
use Rattle.fts_script.specs.declared.error.ScriptError.TheVariants as unread
use Rattle.fts_script.specs.declared.error.GroupError.{GroupError}
use Rattle.fts_script.specs.declared.error.GroupError.TheVariants as ungrouped
use Rattle.fts_top.specs.declared.status.Status.{Status}
use Rattle.fts_top.specs.declared.status.Status.TheVariants as status
use Rattle.fts_top.specs.declared.ends.RunEnd.{RunEnd}
use Rattle.fts_top.specs.declared.ends.RunEnd.TheVariants as run_end
use Rattle.fts_top.specs.declared.ends.CreateEnd.{CreateEnd}
use Rattle.fts_top.specs.declared.ends.CreateEnd.TheVariants as create_end
use Rattle.fts_top.specs.declared.ends.Halt.{Halt}
use Rattle.fts_top.specs.declared.ends.Halt.TheVariants as halt
use Rattle.fts_top.specs.declared.ends.Unsent.{Unsent}
use Rattle.fts_top.specs.declared.ends.Unsent.TheVariants as unsent

-- what ends the lines where a reply was not written whole
abbrev pub halt_of_unsent : Unsent → Halt
halt_of_unsent unsent.NoMemory = halt.NoMemory
halt_of_unsent unsent.WriteFault = halt.WriteFault

-- the end of a script that was not read
abbrev pub end_of_unread : ScriptError → RunEnd
end_of_unread unread.NoMemory = run_end.NoMemory
end_of_unread unread.ReadFault = run_end.ReadFault
end_of_unread (unread.ScriptTooLong lines bytes) = run_end.ScriptTooLong lines bytes

-- or whose lines were not grouped by sessions
abbrev pub end_of_ungrouped : GroupError → RunEnd
end_of_ungrouped ungrouped.NoMemory = run_end.NoMemory
end_of_ungrouped (ungrouped.TooManySessions number) = run_end.TooManySessions number

-- the status of a run's end
abbrev pub status_of_run : RunEnd → Status
status_of_run run_end.Done = status.Done
status_of_run run_end.ShortOfMemory = status.NoMemory
status_of_run run_end.NoMemory = status.NoMemory
status_of_run run_end.ReadFault = status.ReadFault
status_of_run run_end.WriteFault = status.WriteFault
status_of_run run_end.DiskFault = status.DiskFault
status_of_run (run_end.ScriptTooLong lines bytes) = status.ScriptTooLong lines bytes
status_of_run (run_end.TooManySessions number) = status.TooManySessions number

-- the status of an end of `create`
abbrev pub status_of_create : CreateEnd → Status
status_of_create create_end.Done = status.Done
status_of_create create_end.NoMemory = status.NoMemory
status_of_create create_end.AlreadyCreated = status.AlreadyCreated
status_of_create create_end.WriteFault = status.WriteFault
status_of_create create_end.DiskFault = status.DiskFault

-- the status where no database was opened
abbrev pub status_of_opening : OpenError → Status
status_of_opening opening.NoMemory = status.NoMemory
status_of_opening opening.NotCreated = status.NotCreated
status_of_opening (opening.Damaged device file at) = status.Damaged device file at
status_of_opening opening.DiskFault = status.DiskFault
