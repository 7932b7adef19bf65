use Rattle.std.proofs.Common.{subst, sym}
use Rattle.fts_workers.specs.Workers.{Works}
use Rattle.fts_workers.specs.declared.health.Health.{Health}
use Rattle.fts_workers.proofs.Working.{AreSoFar, one_more, the_last}
use Rattle.fts_workers.proofs.workers.make_rounds.Goals as goal

pub returns-then-is_last : goal.returns-then-is_last
returns-then-is_last g c =
    subst (λ (met : Health). Works g.S.EngineSteps.sight g.W.Rounds.round met c.args.steps.now c.make-now.new.steps) (sym c.worse.ensures)
    (the_last g.S.EngineSteps.sight g.W.Rounds.round c.args.steps.now c.rounds.met c.make-now.result c.rounds.steps c.make-now.new.steps c.rounds.invariant c.make-now.ensures)

pub rounds-preserved : goal.rounds-preserved
rounds-preserved g c =
    subst (λ (met : Health). AreSoFar g.S.EngineSteps.sight g.W.Rounds.round c.args.steps.now met c.make-now.new.steps) (sym c.worse-met.ensures)
    (one_more g.S.EngineSteps.sight g.W.Rounds.round c.args.steps.now c.rounds.met c.make-now.result c.rounds.steps c.make-now.new.steps c.rounds.invariant c.make-now.ensures)
