use Rattle.std.proofs.Common.{◌≡◌, ◌≤◌, filter, take, length}
use Rattle.fts_ids.specs.Marks.{is_marked}
use Rattle.fts_ids.proofs.marks.marked_of.Given as goal

abbrev pub invariant-loop-at : goal.invariant-loop-at
invariant-loop-at l = record {
  size : length l.found.items ≡ length l.ids;
  count : l.count ≤ l.at;
  each : take l.count l.found.items ≡ filter (is_marked l.marks) (take l.at l.ids);
}
