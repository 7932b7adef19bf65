use Rattle.std.proofs.Common.{◌≡◌, length}
use Rattle.fts_host.proofs.disk.HostDisk.over.Given as goal

abbrev pub invariant-loop-name : goal.invariant-loop-name
invariant-loop-name g l = length l.files.items ≡ l.name-index
