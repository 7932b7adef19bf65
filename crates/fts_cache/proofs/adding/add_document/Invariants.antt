use Rattle.std.proofs.Common.{◌≡◌, ℕ, List, drop}
use Rattle.fts_cache.specs.Document.{AreWords}
use Rattle.fts_cache.specs.Words.{IsPartlyAdded, AreNumbersOf}
use Rattle.fts_cache.proofs.adding.add_document.Given as goal

abbrev pub invariant-loop-place : goal.invariant-loop-place
invariant-loop-place l = record {
  added : (w : List ℕ) → IsPartlyAdded l.document (drop l.place l.document.words) l.fn.words l.words w;
  words : AreWords (drop l.place l.document.words);
  left : AreNumbersOf l.fn.words (drop l.place l.document.words) (drop l.place l.numbers);
  numbers : l.words.numbers ≡ l.fn.words.numbers;
}
