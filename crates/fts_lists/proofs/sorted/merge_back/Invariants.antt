use Rattle.std.proofs.Common.{◌+◌, take}
use Rattle.fts_lists.specs.Merging.{IsMerging}
use Rattle.fts_lists.proofs.sorted.merge_back.Given as goal

abbrev pub invariant-loop-at : goal.invariant-loop-at
invariant-loop-at l = IsMerging (take l.count l.initial.held) l.ids l.held l.at.kept l.at.left l.at.end

abbrev pub decreases-loop-at : goal.decreases-loop-at
decreases-loop-at l = l.at.kept + l.at.left
