use Rattle.std.proofs.Common.{◌≡◌}
use Rattle.fts_lists.specs.State.{ids_of}
use Rattle.fts_lists.specs.declared.lists.DeleteList.TheVariants.{DeletedCache}
use Rattle.fts_sync.specs.Leaving.{some_dead}
use Rattle.fts_sync.proofs.sealing.has_dead.Given as goal

abbrev pub invariant-loop-document : goal.invariant-loop-document
invariant-loop-document l = record {
  can_next : (goal.iterator-loop-document).can_next l.document-iterator;
  is_finite : (goal.iterator-loop-document).is_finite l.document-iterator;
  same : some_dead (ids_of DeletedCache l.lists) l.document-iterator ≡ some_dead (ids_of DeletedCache l.lists) l.fn.documents;
}
