use Rattle.std.proofs.Common.{rules}
use Rattle.std.proofs.lemmas.Fn.{always_returns_same}
use Rattle.std.specs.Ordering.{is_lt}
use Rattle.fts_words.specs.Order.{byte_order}
use Rattle.fts_cache.proofs.Shown.{entries_rank}
use Rattle.fts_cache.proofs.words.sort_words.Goals as goal

pub returns-clause-sorted : goal.returns-clause-sorted
returns-clause-sorted c = c.sort_unstable_by.ensures.sorted (λ v w. is_lt (byte_order v.0 w.0)) entries_rank (always_returns_same _ _ _ (λ a r f k. search rules))
