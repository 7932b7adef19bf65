use Rattle.std.proofs.Common.{◌≡◌, ◌+◌, sum_by, drop}
use Rattle.fts_cache.specs.Document.{document_size}
use Rattle.fts_cache.proofs.cache.total_size.Given as goal

abbrev pub invariant-loop-document : goal.invariant-loop-document
invariant-loop-document l = l.total + sum_by document_size (drop l.document-index l.documents) ≡ l.size + sum_by document_size l.documents
