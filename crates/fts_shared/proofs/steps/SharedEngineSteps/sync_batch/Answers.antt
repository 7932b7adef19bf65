use Rattle.fts_steps.specs.Step.{to_sync}
use Rattle.fts_steps.specs.Answers.{sync_answer_of}
use Rattle.fts_shared.proofs.Seats.{from_seat}
use Rattle.fts_shared.proofs.steps.SharedEngineSteps.sync_batch.Goals as goal

pub returns : goal.returns
returns g c = from_seat (λ s. s.placed) to_sync (sync_answer_of c.sync_at-made.result) c.args.self.now _ c.sync_at-made.ensures
