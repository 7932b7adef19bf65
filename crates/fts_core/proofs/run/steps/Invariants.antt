use Rattle.std.proofs.Common.{◌≡◌, ◌+◌, ◌≤◌, length, IsTrue, vec_len}
use Rattle.std.specs.Vec.{vec_capacity}
use Rattle.fts_core.proofs.Running.{LeadsTo}
use Rattle.fts_core.proofs.run.steps.Given as goal

abbrev pub invariant-loop-event : goal.invariant-loop-event
invariant-loop-event g l = record {
  can_next : (goal.iterator-loop-event g).can_next l.event-iterator;
  is_finite : (goal.iterator-loop-event g).is_finite l.event-iterator;
  room : vec_len l.outcomes + length l.event-iterator.rest.items ≤ vec_capacity l.outcomes;
  counted : length l.outcomes.items + length l.event-iterator.rest.items ≡ length l.fn.events.items;
  leads : IsTrue g.D.Disk.tells → IsTrue g.E.Disk.tells → LeadsTo l.fn.world l.fn.events.items l.world l.event-iterator.rest.items l.outcomes.items;
}
