use Rattle.fts_turn.specs.Histories.{Begins}
use Rattle.fts_turn.specs.Promises.{seat_seen, IsAtRest, IsSameSeat}
use Rattle.fts_turn.proofs.tests.raise_often.Given as goal

abbrev pub invariant-loop : goal.invariant-loop
invariant-loop g l = record { rest : IsAtRest l.turn l.seat; same : IsSameSeat l.fn.seat l.seat; seen : Begins (seat_seen l.fn.seat) (seat_seen l.seat) }
