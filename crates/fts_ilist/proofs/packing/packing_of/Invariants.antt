use Rattle.std.proofs.Common.{◌≡◌, ◌++◌}
use Rattle.fts_ilist.specs.Spelling.{PostingsAfter, last_id}
use Rattle.fts_ilist.proofs.packing.packing_of.Given as goal

abbrev pub invariant-loop-document : goal.invariant-loop-document
invariant-loop-document l = record {
  all : l.packing ++ l.document-iterator ≡ l.fn.docs;
  after : PostingsAfter (last_id l.packing) l.document-iterator;
}
