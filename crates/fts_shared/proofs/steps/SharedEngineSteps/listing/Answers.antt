use Rattle.fts_steps.specs.Step.{to_list}
use Rattle.fts_steps.specs.Answers.{listing_answer_of}
use Rattle.fts_shared.proofs.Seats.{from_seat}
use Rattle.fts_shared.proofs.steps.SharedEngineSteps.listing.Goals as goal

pub returns : goal.returns
returns g c = from_seat (λ s. s.placed) (to_list c.args.kind) (listing_answer_of c.list_at.result) c.args.self.now _ c.list_at.ensures
