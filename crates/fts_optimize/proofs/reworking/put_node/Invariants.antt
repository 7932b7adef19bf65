use Rattle.fts_optimize.specs.Reworking.{IsKeeping}
use Rattle.fts_optimize.proofs.reworking.put_node.Given as goal

abbrev pub invariant-loop-document : goal.invariant-loop-document
invariant-loop-document l = record {
  can_next : (goal.iterator-loop-document).can_next l.document-iterator;
  is_finite : (goal.iterator-loop-document).is_finite l.document-iterator;
  keeping : IsKeeping l.being l.taken l.fn.packing l.fn.documents l.packing l.document-iterator;
}
