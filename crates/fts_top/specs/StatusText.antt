use Rattle.std.specs.Prelude.{ℕ, List, ◌++◌, codes, decimal}
use Rattle.fts_top.specs.declared.status.Status.{Status}
use Rattle.fts_top.specs.declared.status.Status.TheVariants as status
use Rattle.fts_engine.specs.Opening.{device_text}

-- the words that the program prints for a status
abbrev pub status_text : Status → List ℕ
status_text status.Done = codes "done"
status_text status.NoMemory = codes "no memory"
status_text status.Usage = codes "usage: fts DIR create|run|serve|gen .."
status_text status.ReadFault = codes "read fault"
status_text status.WriteFault = codes "write fault"
status_text status.DiskFault = codes "disk fault"
status_text status.NotCreated = codes "not created"
status_text status.AlreadyCreated = codes "already created"
status_text (status.Damaged device file at) =
    codes "damaged " ++ (device_text device ++ (codes " file " ++ (decimal file ++ (codes " at " ++ decimal at))))
status_text (status.ScriptTooLong lines bytes) = codes "script too long"
status_text (status.TooManySessions number) = codes "too many sessions"
