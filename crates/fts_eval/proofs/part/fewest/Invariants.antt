use Rattle.std.proofs.Common.{◌<◌, length}
use Rattle.fts_eval.proofs.part.fewest.Given as goal

abbrev pub invariant-loop-at : goal.invariant-loop-at
invariant-loop-at l = l.place < length l.parts
