use Rattle.std.proofs.Common.{◌≡◌, ◌≤◌, ◌<◌, ℕ, not, length, get_or}
use Rattle.std.specs.Vec.{vec_capacity}
use Rattle.std.proofs.lemmas.List.Filters.{FiltersInPlace}
use Rattle.fts_ids.specs.Ids.{has}
use Rattle.fts_lists.proofs.sorted.take_out.Given as goal

abbrev pub invariant-loop-at : goal.invariant-loop-at
invariant-loop-at l = record {
  filters : FiltersInPlace (λ id. not (has l.taken id)) l.initial.held.items l.held.items l.kept l.at;
  walks : (k : ℕ) → l.at ≤ k → k < length l.initial.held.items → has l.walk (get_or l.initial.held.items k 0) ≡ has l.taken (get_or l.initial.held.items k 0);
  capacity : vec_capacity l.held ≡ vec_capacity l.initial.held;
}
