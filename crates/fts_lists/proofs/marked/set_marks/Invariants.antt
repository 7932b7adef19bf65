use Rattle.std.proofs.Common.{◌≡◌, ◌<◌, ℕ, take, length, cond}
use Rattle.fts_ids.specs.Ids.{has}
use Rattle.fts_ids.specs.Marks.{is_marked}
use Rattle.fts_lists.proofs.marked.set_marks.Given as goal

abbrev pub invariant-loop-id : goal.invariant-loop-id
invariant-loop-id l = record {
  size : length l.marks.items ≡ length l.initial.marks.items;
  each : (id : ℕ) → id < length l.initial.marks.items → is_marked l.marks.items id ≡ cond (has (take l.id-index l.ids) id) l.mark (is_marked l.initial.marks.items id);
}
