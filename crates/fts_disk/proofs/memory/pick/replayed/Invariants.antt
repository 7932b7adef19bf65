use Rattle.std.proofs.Common.{◌≡◌, ◌≤◌, length, take}
use Rattle.fts_disk.specs.Contents.{contents}
use Rattle.fts_disk.specs.Replay.{seen_after}
use Rattle.fts_disk.proofs.memory.pick.replayed.Given as goal

abbrev pub invariant-loop-k : goal.invariant-loop-k
invariant-loop-k l = record {
  seen : contents l.files.items ≡ seen_after (take l.k l.calls) (contents l.first);
  sixteen : 16 ≤ length l.files.items;
}
