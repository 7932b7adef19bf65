use Rattle.std.proofs.Common.{rules}
use Rattle.std.proofs.lemmas.Fn.{always_returns_same}
use Rattle.fts_index.specs.Occurrences.{stands_before}
use Rattle.fts_index.proofs.Sorting.{places_rank}
use Rattle.fts_index.proofs.occurrence.sort.Goals as goal

pub returns-clause-sorted : goal.returns-clause-sorted
returns-clause-sorted c = c.sort_unstable_by.ensures.sorted stands_before places_rank (always_returns_same _ _ _ (λ a r f k. search rules))
