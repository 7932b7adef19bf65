use Rattle.fts_ixcodec.proofs.Walks.{IsWriting}
use Rattle.fts_ixcodec.proofs.writing.put_lists.Given as goal

abbrev pub invariant-loop-node : goal.invariant-loop-node
invariant-loop-node l = record {
  can_next : (goal.iterator-loop-node).can_next l.node-iterator;
  is_finite : (goal.iterator-loop-node).is_finite l.node-iterator;
  writing : IsWriting l.fn.nodes l.node-iterator l.fn.buf l.buf l.at;
}
