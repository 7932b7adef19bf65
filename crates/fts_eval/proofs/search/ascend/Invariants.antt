use Rattle.std.proofs.Common.{ℕ, ◌+◌, ◌<◌, get_or}
use Rattle.fts_eval.specs.Says.{docs_of}
use Rattle.fts_eval.proofs.search.ascend.Given as goal

abbrev pub invariant-loop-place : goal.invariant-loop-place
invariant-loop-place l = (k : ℕ) → k + 1 < l.place → get_or (docs_of l.rows) k 0 < get_or (docs_of l.rows) (k + 1) 0
