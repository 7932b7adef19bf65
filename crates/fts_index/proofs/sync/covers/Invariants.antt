use Rattle.std.proofs.Common.{◌≡◌, ◌+◌, ◌-◌, ◌≤◌, map, drop}
use Rattle.fts_index.specs.Index.{pending_seen}
use Rattle.fts_index.specs.Parts.{counted_within}
use Rattle.fts_index.proofs.sync.covers.Given as goal

abbrev pub invariant-loop-place : goal.invariant-loop-place
invariant-loop-place l = record {
  left : l.left ≤ l.limit;
  count : l.place + counted_within l.limit (l.limit - l.left) (map pending_seen (drop l.place l.pending.items)) ≡ counted_within l.limit 0 (map pending_seen l.pending.items);
}
