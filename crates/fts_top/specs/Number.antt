use Rattle.std.specs.Prelude.{ℕ}
use Rattle.fts_top.specs.declared.status.Status.{Status}
use Rattle.fts_top.specs.declared.status.Status.TheVariants as status

-- the number with which the program ends, by its status
abbrev pub number_of : Status → ℕ
number_of status.Done = 0
number_of status.NoMemory = 1
number_of status.Usage = 2
number_of status.ReadFault = 3
number_of status.WriteFault = 4
number_of status.DiskFault = 5
number_of status.NotCreated = 6
number_of status.AlreadyCreated = 7
number_of (status.Damaged device file at) = 8
number_of (status.ScriptTooLong lines bytes) = 9
number_of (status.TooManySessions number) = 10
