use Rattle.std.proofs.Common.{◌≡◌, ◌+◌, ℕ, List, drop, take}
use Rattle.fts_cache.specs.Document.{bytes_in}
use Rattle.fts_cache.specs.Words.{Grows, queue_in, AreNumbersOf, FewIdle}
use Rattle.fts_cache.proofs.adding.reserve_words.Given as goal

abbrev pub invariant-loop-place : goal.invariant-loop-place
invariant-loop-place l = record {
  room : (w : List ℕ) → (queue_in l.words w).room + bytes_in w (drop l.place l.document.words) ≡ (queue_in l.fn.words w).room + bytes_in w l.document.words;
  numbers : AreNumbersOf l.words (take l.place l.document.words) l.numbers.items;
  grows : Grows l.fn.words l.words;
  few : FewIdle l.words;
}
