use Rattle.std.proofs.Common.{◌≡◌}
use Rattle.fts_turn.proofs.turn.Turns.wait.Given as goal

abbrev pub invariant-loop : goal.invariant-loop
invariant-loop g l = record {
  can_go_on : (goal.iterator-loop g).can_next l.iterator' × (goal.iterator-loop g).is_finite l.iterator';
  table : l.seat.inside.table_id ≡ l.fn.seat.inside.table_id;
  same : l.seat.inside.me ≡ l.fn.seat.inside.me;
}
