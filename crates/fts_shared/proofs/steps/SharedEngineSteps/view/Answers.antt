use Rattle.fts_query.specs.Seen.{leaves_seen}
use Rattle.fts_steps.specs.Step.{to_view}
use Rattle.fts_steps.specs.Answers.{view_answer_of}
use Rattle.fts_shared.proofs.Seats.{from_seat}
use Rattle.fts_shared.proofs.steps.SharedEngineSteps.view.Goals as goal

pub returns-clause-steps : goal.returns-clause-steps
returns-clause-steps g c = from_seat (λ s. s.placed) (to_view (leaves_seen c.args.leaves.items)) (view_answer_of c.view_at.result) c.args.self.now _ c.view_at.ensures.steps
