use Rattle.std.proofs.Common.{◌≡◌, ◌+◌, ℕ, List, drop, take, map}
use Rattle.fts_cache.specs.Document.{bytes_of}
use Rattle.fts_cache.specs.Words.{Grows, queue_in, FewIdle}
use Rattle.fts_cache.proofs.Promises.{ArePromised}
use Rattle.fts_cache.proofs.adding.reserve_documents.Given as goal

abbrev pub invariant-loop-document : goal.invariant-loop-document
invariant-loop-document l = record {
  room : (w : List ℕ) → (queue_in l.words w).room + bytes_of w (drop l.document-index l.documents) ≡ (queue_in l.fn.words w).room + bytes_of w l.documents;
  numbers : ArePromised l.words (take l.document-index l.documents) (map (λ n. n.items) l.promised.items);
  grows : Grows l.fn.words l.words;
  few : FewIdle l.words;
}
