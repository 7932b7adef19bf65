use Rattle.std.proofs.Common.{length}
use Rattle.fts_eval.proofs.Rows.{IsPast}
use Rattle.fts_eval.proofs.tried.from_id.Given as goal

abbrev pub invariant-loop-rest : goal.invariant-loop-rest
invariant-loop-rest l = IsPast l.id l.rows l.rest

abbrev pub decreases-loop-rest : goal.decreases-loop-rest
decreases-loop-rest l = length l.rest
