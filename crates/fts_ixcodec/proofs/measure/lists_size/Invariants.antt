use Rattle.fts_ixcodec.proofs.Walks.{IsSumming}
use Rattle.fts_ixcodec.proofs.measure.lists_size.Given as goal

abbrev pub invariant-loop-node : goal.invariant-loop-node
invariant-loop-node l = record {
  can_next : (goal.iterator-loop-node).can_next l.node-iterator;
  is_finite : (goal.iterator-loop-node).is_finite l.node-iterator;
  summing : IsSumming l.fn.nodes l.node-iterator l.fn.start l.size;
}
