use Rattle.fts_steps.specs.Step.{to_optimize}
use Rattle.fts_steps.specs.Answers.{optimize_answer_of}
use Rattle.fts_shared.proofs.Seats.{from_seat}
use Rattle.fts_shared.proofs.steps.SharedEngineSteps.optimize_step.Goals as goal

pub returns : goal.returns
returns g c = from_seat (λ s. s.placed) to_optimize (optimize_answer_of c.optimize_at.result) c.args.self.now _ c.optimize_at.ensures
