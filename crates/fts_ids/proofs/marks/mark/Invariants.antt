use Rattle.std.proofs.Common.{◌≡◌, ◌||◌, ℕ, take, length}
use Rattle.fts_ids.specs.Ids.{has}
use Rattle.fts_ids.specs.Marks.{is_marked}
use Rattle.fts_ids.proofs.marks.mark.Given as goal

abbrev pub invariant-loop-id : goal.invariant-loop-id
invariant-loop-id l = record {
  size : length l.marks ≡ length l.initial.marks;
  each : (id : ℕ) → is_marked l.marks id ≡ (is_marked l.initial.marks id || has (take l.id-index l.ids) id);
}
