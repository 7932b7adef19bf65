use Rattle.std.proofs.Common.{◌≡◌, ◌+◌, ◌≤◌, length, vec_capacity}
use Rattle.fts_turn.specs.Promises.{seats_of, IsUnused, IsSeat, IsMaker, Numbered}
use Rattle.fts_turn.proofs.turn.Turns.deal.Given as goal

abbrev pub invariant-loop : goal.invariant-loop
invariant-loop g l = record {
  count : length l.all.items + 1 ≡ l.counter;
  within : l.counter ≤ seats_of l.self;
  maker : IsMaker l.self (length l.all.items) l.last;
  seats : Numbered (IsSeat l.self) 0 l.all.items;
  unused : Numbered (λ number seat. IsUnused seat) 0 l.all.items;
  room : seats_of l.self ≤ vec_capacity l.all;
}
