use Rattle.std.proofs.Common.{◌-◌, length}
use Rattle.fts_token.specs.Bounds.{IsAhead}
use Rattle.fts_token.proofs.block.with_bound.Given as goal

abbrev pub invariant-loop-block : goal.invariant-loop-block
invariant-loop-block l = record { ahead : IsAhead l.text l.at l.block.start l.block.bounds }

abbrev pub decreases-loop-block : goal.decreases-loop-block
decreases-loop-block l = length l.text - l.block.start
