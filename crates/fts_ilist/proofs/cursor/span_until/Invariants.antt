use Rattle.std.proofs.Common.{◌-◌, ◌≤◌, length}
use Rattle.fts_ilist.proofs.Until.{IsSpanSoFar}
use Rattle.fts_ilist.proofs.cursor.span_until.Given as goal

abbrev pub invariant-loop-end : goal.invariant-loop-end
invariant-loop-end l = record {
  so_far : IsSpanSoFar l.id l.bytes l.len l.last l.count;
  low : l.last ≤ l.doc;
}

abbrev pub decreases-loop-end : goal.decreases-loop-end
decreases-loop-end l = length l.bytes - l.len
