use Rattle.std.proofs.Common.{ℕ, List, take}
use Rattle.fts_cache.specs.Words.{IsLess, GivesUp}
use Rattle.fts_cache.proofs.adding.release_words.Given as goal

abbrev pub invariant-loop-number : goal.invariant-loop-number
invariant-loop-number l = record {
  less : IsLess l.fn.words l.words;
  room : (w : List ℕ) → GivesUp (take l.number-index l.numbers) l.fn.words l.words w;
}
