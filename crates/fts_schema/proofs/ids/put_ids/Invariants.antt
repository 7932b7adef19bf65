use Rattle.std.proofs.Common.{◌≡◌, ◌*◌, ◌≤◌, length, drop}
use Rattle.fts_schema.specs.Reply.{ids_text}
use Rattle.fts_schema.proofs.ids.put_ids.Given as goal

-- the ids behind those that are left are written, and there is room for these
abbrev pub invariant-loop-left : goal.invariant-loop-left
invariant-loop-left l = record {
  written : drop l.at l.buf ≡ ids_text (drop l.left l.ids);
  room : l.left * 21 ≤ l.at;
  within : l.at ≤ length l.buf;
  size : length l.buf ≡ length l.fn.buf;
  some : l.left ≤ length l.ids;
}

abbrev pub decreases-loop-left : goal.decreases-loop-left
decreases-loop-left l = l.left
