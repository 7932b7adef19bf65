use Rattle.fts_steps.specs.Step.{to_measure, measured}
use Rattle.fts_shared.proofs.Seats.{from_seat}
use Rattle.fts_shared.proofs.steps.SharedEngineSteps.cache_size.Goals as goal

pub returns : goal.returns
returns g c = from_seat (λ s. s.placed) to_measure (measured c.measure_at.result) c.args.self.now _ c.measure_at.ensures
