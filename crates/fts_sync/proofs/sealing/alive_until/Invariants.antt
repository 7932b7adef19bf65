use Rattle.fts_lists.specs.State.{ids_of}
use Rattle.fts_lists.specs.declared.lists.DeleteList.TheVariants.{DeletedCache}
use Rattle.fts_sync.specs.Leaving.{IsPackingUntil}
use Rattle.fts_sync.proofs.sealing.alive_until.Given as goal

abbrev pub invariant-loop-document : goal.invariant-loop-document
invariant-loop-document l = record {
  can_next : (goal.iterator-loop-document).can_next l.document-iterator;
  is_finite : (goal.iterator-loop-document).is_finite l.document-iterator;
  until : IsPackingUntil l.doc (ids_of DeletedCache l.lists) l.fn.documents l.packing l.document-iterator;
}
