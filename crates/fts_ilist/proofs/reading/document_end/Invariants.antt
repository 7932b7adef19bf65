use Rattle.std.proofs.Common.{◌-◌, length}
use Rattle.fts_ilist.specs.Progress.{ReadsPositions}
use Rattle.fts_ilist.proofs.reading.document_end.Given as goal

abbrev pub invariant-loop-at : goal.invariant-loop-at
invariant-loop-at l = ReadsPositions l.bytes l.start l.at l.next

abbrev pub decreases-loop-at : goal.decreases-loop-at
decreases-loop-at l = length l.bytes - l.at
