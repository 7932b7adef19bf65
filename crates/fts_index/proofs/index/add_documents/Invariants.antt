use Rattle.std.proofs.Common.{drop}
use Rattle.fts_index.proofs.Adding.{IsAdding}
use Rattle.fts_index.proofs.index.add_documents.Given as goal

abbrev pub invariant-loop-document : goal.invariant-loop-document
invariant-loop-document l = IsAdding l.fn.cache l.documents l.cache (drop l.document-index l.documents)
