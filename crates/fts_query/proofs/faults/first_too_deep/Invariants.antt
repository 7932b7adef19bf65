use Rattle.fts_query.proofs.FaultLemmas.{IsClimbed}
use Rattle.fts_query.proofs.faults.first_too_deep.Given as goal

abbrev pub invariant-loop-place : goal.invariant-loop-place
invariant-loop-place l = IsClimbed l.text l.place l.height
