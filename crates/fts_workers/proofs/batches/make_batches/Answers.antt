use Rattle.fts_workers.proofs.OneRound.{step_more, step_last, ends_at}
use Rattle.fts_workers.proofs.batches.make_batches.Goals as goal

pub returns-in-Some : goal.returns-in-Some
returns-in-Some g c =
    step_last g.S.EngineSteps.sight c.args.most c.args.steps.now c.rounds.left c.rounds.steps c.one_round.new.steps c.in-Some.met c.rounds-test.true
    c.rounds.invariant c.in-Some.ensures

pub rounds-preserved : goal.rounds-preserved
rounds-preserved g c =
    step_more g.S.EngineSteps.sight c.args.most c.args.steps.now c.rounds.left c.rounds.steps c.one_round.new.steps c.rounds-test.true c.rounds.invariant c.in-None.ensures

pub returns : goal.returns
returns g c = ends_at g.S.EngineSteps.sight c.args.most c.args.steps.now c.rounds.left c.rounds.steps c.rounds-test.false c.rounds.invariant
