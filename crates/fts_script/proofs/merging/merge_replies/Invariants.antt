use Rattle.std.proofs.Common.{length}
use Rattle.std.specs.Prelude.{map}
use Rattle.fts_script.specs.Script.{lines_in}
use Rattle.fts_script.specs.Group.{shares_of}
use Rattle.fts_script.specs.Merge.{items_of}
use Rattle.fts_script.proofs.Putting.{IsFront, IsMerging}
use Rattle.fts_script.proofs.merging.merge_replies.Given as goal

abbrev pub invariant-loop-own : goal.invariant-loop-own
invariant-loop-own g l = record {
  rest : IsFront l.fn.replies.items l.left.items;
  merging : IsMerging (lines_in l.script) (shares_of l.groups) (map items_of l.fn.replies.items) (length l.left.items) l.all.items;
}

abbrev pub decreases-loop-own : goal.decreases-loop-own
decreases-loop-own g l = length l.left.items
