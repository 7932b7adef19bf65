use Rattle.std.proofs.Common.{◌≡◌, ◌+◌, ◌≤◌, ℕ, List, sum_by, length, true}
use Rattle.fts_ilist.specs.Queue.{postings_behind}
use Rattle.fts_cache.specs.Cache.{cached_behind, IdsAscend}
use Rattle.fts_cache.specs.Words.{queue_in, AreBehind}
use Rattle.fts_cache.specs.Kept.{kept, NoteWords}
use Rattle.fts_cache.proofs.cache.drop_documents.Given as goal

abbrev pub invariant-loop-first : goal.invariant-loop-first
invariant-loop-first l = record {
  ascend : IdsAscend (kept l.documents.items);
  behind : cached_behind l.doc (kept l.documents.items) ≡ cached_behind l.doc (kept l.fn.documents.items);
  size : l.size + sum_by (λ d. d.size) (kept l.documents.items) ≡ sum_by (λ d. d.size) (kept l.fn.documents.items);
  noted : NoteWords l.words l.documents.items;
  postings : (w : List ℕ) → postings_behind l.doc (queue_in l.words w).postings ≡ postings_behind l.doc (queue_in l.fn.words w).postings;
  done : l.done ≡ true → AreBehind l.doc l.words;
  last : (w : List ℕ) → (queue_in l.words w).last ≤ (queue_in l.fn.words w).last;
}

abbrev pub decreases-loop-first : goal.decreases-loop-first
decreases-loop-first l = length l.documents.items
