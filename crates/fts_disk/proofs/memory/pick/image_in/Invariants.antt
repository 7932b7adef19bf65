use Rattle.std.proofs.Common.{◌≤◌, length}
use Rattle.fts_disk.specs.Contents.{contents}
use Rattle.fts_disk.specs.Replay.{images_at}
use Rattle.fts_disk.proofs.memory.pick.image_in.Given as goal

abbrev pub invariant-loop-k : goal.invariant-loop-k
invariant-loop-k l = record {
  image : images_at l.k l.calls (contents l.first) (contents l.image.items);
  sixteen : 16 ≤ length l.image.items;
}
