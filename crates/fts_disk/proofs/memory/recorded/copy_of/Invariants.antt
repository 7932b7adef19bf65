use Rattle.std.proofs.Common.{◌≡◌, length, map, take}
use Rattle.fts_disk.proofs.Contents.{items_of}
use Rattle.fts_disk.proofs.memory.recorded.copy_of.Given as goal

abbrev pub invariant-loop-file : goal.invariant-loop-file
invariant-loop-file l = record {
  same : map items_of l.copy.items ≡ map items_of (take l.file-index l.files);
  count : length l.copy.items ≡ l.file-index;
}
