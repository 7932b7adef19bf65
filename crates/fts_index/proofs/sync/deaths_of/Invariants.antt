use Rattle.std.proofs.Common.{◌≡◌}
use Rattle.fts_index.specs.Parts.{deaths_through}
use Rattle.fts_index.proofs.sync.deaths_of.Given as goal

abbrev pub invariant-loop-place : goal.invariant-loop-place
invariant-loop-place l = l.deaths.items ≡ deaths_through l.place l.pending.items
