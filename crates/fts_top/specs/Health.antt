-- How a script ends, by what its lines and the batches behind them met.
use Rattle.fts_workers.specs.declared.health.Health.{Health}
use Rattle.fts_workers.specs.declared.health.Health.TheVariants.{Sound, Short, Failed}
use Rattle.fts_top.specs.declared.ends.Halt.{Halt}
use Rattle.fts_top.specs.declared.ends.Halt.TheVariants as halt
use Rattle.fts_top.specs.declared.ends.RunEnd.{RunEnd}
use Rattle.fts_top.specs.declared.ends.RunEnd.TheVariants as end

-- the end of a script that was read to its end
abbrev pub read_end : Health → RunEnd
read_end Sound = end.Done
read_end Short = end.ShortOfMemory
read_end Failed = end.DiskFault

-- the end of a script, by what ended its lines and what they met
abbrev pub end_of : Halt → Health → RunEnd
end_of halt.End health = read_end health
end_of halt.NoMemory health = end.NoMemory
end_of halt.ReadFault health = end.ReadFault
end_of halt.WriteFault health = end.WriteFault
end_of (halt.TooLong lines bytes) health = end.ScriptTooLong lines bytes
end_of (halt.TooManySessions number) health = end.TooManySessions number

-- the script was read to its end
abbrev pub IsRead : RunEnd → Type 0
IsRead end.Done = Unit {0}
IsRead end.ShortOfMemory = Unit {0}
IsRead end.DiskFault = Unit {0}
IsRead end.NoMemory = ⊥
IsRead end.ReadFault = ⊥
IsRead end.WriteFault = ⊥
IsRead (end.ScriptTooLong lines bytes) = ⊥
IsRead (end.TooManySessions number) = ⊥
