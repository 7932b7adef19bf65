use Rattle.std.proofs.Common.{ℕ, take, IsTrue}
use Rattle.fts_cache.specs.Words.{has_number}
use Rattle.fts_cache.specs.Kept.{notes}
use Rattle.fts_cache.proofs.cache.noted_until.Given as goal

abbrev pub invariant-loop-place : goal.invariant-loop-place
invariant-loop-place l = (n id : ℕ) → IsTrue (notes n id (take l.place l.documents.items)) → IsTrue (has_number n l.numbers.items)
