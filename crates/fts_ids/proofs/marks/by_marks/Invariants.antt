use Rattle.std.proofs.Common.{◌≡◌, ℕ, take, length}
use Rattle.fts_ids.specs.Marks.{is_marked, some_has}
use Rattle.fts_ids.proofs.marks.by_marks.Given as goal

abbrev pub invariant-loop-list : goal.invariant-loop-list
invariant-loop-list l = record {
  size : length l.marks.items ≡ l.size;
  each : (id : ℕ) → is_marked l.marks.items id ≡ some_has (take l.list-index l.lists) id;
}
