use Rattle.std.proofs.Common.{ℕ, List, length}
use Rattle.fts_cache.specs.Words.{IsTable, IsUsedBut}
use Rattle.fts_cache.proofs.words.trim.Given as goal

abbrev pub invariant-loop-last : goal.invariant-loop-last
invariant-loop-last l = record {
  used : (numbers : List (List ℕ × ℕ)) → IsTable (record { numbers = numbers; slots = l.fn.slots.slots }) → IsUsedBut (record { numbers = numbers; slots = l.fn.slots.slots }) l.fn.idle.items
      → IsUsedBut (record { numbers = numbers; slots = l.fn.slots.slots }) l.idle.items;
}

abbrev pub decreases-loop-last : goal.decreases-loop-last
decreases-loop-last l = length l.idle.items
