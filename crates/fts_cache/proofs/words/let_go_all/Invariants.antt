use Rattle.std.proofs.Common.{◌≡◌, ℕ, List, length}
use Rattle.fts_cache.specs.Words.{queue_in, AreKept, IsLess}
use Rattle.fts_cache.proofs.words.let_go_all.Given as goal

abbrev pub invariant-loop-first : goal.invariant-loop-first
invariant-loop-first l = record {
  kept : AreKept (record { numbers = l.numbers.entries; slots = l.slots.slots }) l.order l.rest;
  less : IsLess (record { numbers = l.fn.numbers.entries; slots = l.fn.slots.slots }) (record { numbers = l.numbers.entries; slots = l.slots.slots });
  room : (w : List ℕ) → (queue_in (record { numbers = l.numbers.entries; slots = l.slots.slots }) w).room ≡ (queue_in (record { numbers = l.fn.numbers.entries; slots = l.fn.slots.slots }) w).room;
}

abbrev pub decreases-loop-first : goal.decreases-loop-first
decreases-loop-first l = length l.rest
