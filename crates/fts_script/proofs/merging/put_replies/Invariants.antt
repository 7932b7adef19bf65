use Rattle.std.proofs.Common.{length}
use Rattle.fts_script.proofs.Putting.{IsFront, IsPutting}
use Rattle.fts_script.proofs.merging.put_replies.Given as goal

abbrev pub invariant-loop-reply : goal.invariant-loop-reply
invariant-loop-reply g l = record {
  rest : IsFront l.fn.own.items l.left.items;
  putting : IsPutting l.places l.fn.own.items l.initial.all.items (length l.left.items) l.all.items;
}

abbrev pub decreases-loop-reply : goal.decreases-loop-reply
decreases-loop-reply g l = length l.left.items
