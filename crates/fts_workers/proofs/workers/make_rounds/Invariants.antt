use Rattle.fts_workers.proofs.Working.{AreSoFar}
use Rattle.fts_workers.proofs.workers.make_rounds.Given as goal

abbrev pub invariant-rounds : goal.invariant-rounds
invariant-rounds g l = AreSoFar g.S.EngineSteps.sight g.W.Rounds.round l.fn.steps l.met l.steps
