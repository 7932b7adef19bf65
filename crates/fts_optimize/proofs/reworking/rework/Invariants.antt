use Rattle.fts_optimize.specs.Reworking.{IsReworking}
use Rattle.fts_optimize.proofs.reworking.rework.Given as goal

abbrev pub invariant-loop-node : goal.invariant-loop-node
invariant-loop-node l = record {
  can_next : (goal.iterator-loop-node).can_next l.node-iterator;
  is_finite : (goal.iterator-loop-node).is_finite l.node-iterator;
  reworking : IsReworking l.being l.fn.nodes l.packing l.node-iterator;
}
