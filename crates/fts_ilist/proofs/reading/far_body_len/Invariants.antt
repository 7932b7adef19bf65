use Rattle.std.proofs.Common.{◌≤◌, ◌-◌, length}
use Rattle.fts_ilist.specs.Progress.{HasNoEndBefore}
use Rattle.fts_ilist.proofs.reading.far_body_len.Given as goal

abbrev pub invariant-loop-passed : goal.invariant-loop-passed
invariant-loop-passed l = record {
  within : l.at ≤ length l.fn.bytes;
  passed : HasNoEndBefore l.fn.bytes l.at l.before;
}

abbrev pub decreases-loop-passed : goal.decreases-loop-passed
decreases-loop-passed l = length l.fn.bytes - l.at
