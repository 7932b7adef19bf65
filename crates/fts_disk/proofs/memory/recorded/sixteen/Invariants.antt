use Rattle.std.proofs.Common.{◌≡◌, ◌≤◌, length}
use Rattle.fts_disk.specs.Contents.{contents}
use Rattle.fts_disk.proofs.memory.recorded.sixteen.Given as goal

abbrev pub invariant-loop : goal.invariant-loop
invariant-loop l = record {
  same : contents l.all.items ≡ contents l.fn.files.items;
  enough : l.counter ≤ length l.all.items;
}
