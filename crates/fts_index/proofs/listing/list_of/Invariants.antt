use Rattle.std.proofs.Common.{◌≡◌, ◌++◌}
use Rattle.fts_ilist.specs.Spelling.{PostingsAfter, last_id}
use Rattle.fts_index.proofs.listing.list_of.Given as goal

abbrev pub invariant-loop-document : goal.invariant-loop-document
invariant-loop-document l = record {
  can_next : (goal.iterator-loop-document).can_next l.document-iterator;
  is_finite : (goal.iterator-loop-document).is_finite l.document-iterator;
  all : l.list ++ l.document-iterator ≡ l.fn.documents;
  after : PostingsAfter (last_id l.list) l.document-iterator;
}
