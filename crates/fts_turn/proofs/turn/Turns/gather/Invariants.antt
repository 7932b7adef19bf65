use Rattle.fts_turn.proofs.Closing.{IsGathering}
use Rattle.fts_turn.proofs.turn.Turns.gather.Given as goal

abbrev pub invariant-loop-seat : goal.invariant-loop-seat
invariant-loop-seat g l = IsGathering l.self l.fn.seats.items l.seats.items l.all

abbrev pub decreases-loop-seat : goal.decreases-loop-seat
decreases-loop-seat g l = goal.left-loop-seat g l
