use Rattle.std.proofs.Common.{◌+◌, length}
use Rattle.fts_ilist.proofs.Merging.{IsMerging}
use Rattle.fts_ilist.proofs.list.merged.Given as goal

abbrev pub invariant-loop-document : goal.invariant-loop-document
invariant-loop-document l = IsMerging l.fn.left l.fn.right l.joined l.left l.right

abbrev pub decreases-loop-document : goal.decreases-loop-document
decreases-loop-document l = length l.left + length l.right
