use Rattle.fts_steps.specs.Step.{to_commit}
use Rattle.fts_steps.specs.Answers.{commit_answer_of}
use Rattle.fts_shared.proofs.Seats.{from_seat}
use Rattle.fts_shared.proofs.steps.SharedEngineSteps.commit.Goals as goal

pub returns : goal.returns
returns g c = from_seat (λ s. s.placed) (to_commit c.args.changes.now) (commit_answer_of c.commit_at-made.result) c.args.self.now _ c.commit_at-made.ensures
