use Rattle.std.proofs.Common.{◌≡◌, ◌++◌, ℕ, List, map, length}
use Rattle.std.specs.List.{concat}
use Rattle.fts_cache.specs.Words.{IsLess, GivesUp}
use Rattle.fts_cache.proofs.adding.release_all.Given as goal

abbrev pub invariant-loop-numbers : goal.invariant-loop-numbers
invariant-loop-numbers l = record {
  less : IsLess l.fn.words l.words;
  room : (done : List ℕ) × (done ++ concat (map (λ n. n.items) l.promised.items) ≡ concat (map (λ n. n.items) l.fn.promised.items)) × ((w : List ℕ) → GivesUp done l.fn.words l.words w);
}

abbrev pub decreases-loop-numbers : goal.decreases-loop-numbers
decreases-loop-numbers l = length l.promised.items
