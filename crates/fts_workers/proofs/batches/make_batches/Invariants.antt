use Rattle.fts_workers.proofs.OneRound.{AreRounds}
use Rattle.fts_workers.proofs.batches.make_batches.Given as goal

abbrev pub invariant-rounds : goal.invariant-rounds
invariant-rounds g l = AreRounds g.S.EngineSteps.sight l.initial.most l.initial.steps l.left l.steps

abbrev pub decreases-rounds : goal.decreases-rounds
decreases-rounds g l = l.left
