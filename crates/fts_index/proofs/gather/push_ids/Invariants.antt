use Rattle.std.proofs.Common.{◌≡◌, ◌++◌, length}
use Rattle.fts_index.specs.Gathered.{doc_ids}
use Rattle.fts_index.proofs.gather.push_ids.Given as goal

abbrev pub invariant-loop-id : goal.invariant-loop-id
invariant-loop-id l = l.ids.items ++ doc_ids l.documents ≡ l.fn.ids.items ++ doc_ids l.fn.documents

abbrev pub decreases-loop-id : goal.decreases-loop-id
decreases-loop-id l = length l.documents
