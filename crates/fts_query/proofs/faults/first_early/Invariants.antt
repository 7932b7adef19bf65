use Rattle.fts_query.proofs.FaultLemmas.{IsPassed}
use Rattle.fts_query.proofs.faults.first_early.Given as goal

abbrev pub invariant-loop-place : goal.invariant-loop-place
invariant-loop-place l = IsPassed l.query l.text l.place l.height
