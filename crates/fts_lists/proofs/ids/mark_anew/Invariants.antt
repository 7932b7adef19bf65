use Rattle.std.proofs.Common.{◌≡◌, ◌<◌, ◌%◌, ℕ, true, false, length}
use Rattle.fts_ids.specs.Ids.{has}
use Rattle.fts_ids.specs.Marks.{is_marked}
use Rattle.fts_lists.proofs.ids.mark_anew.Given as goal

-- what is left, and what has its mark
abbrev pub invariant-loop-id : goal.invariant-loop-id
invariant-loop-id l = record {
  can_next : (goal.iterator-loop-id).can_next l.id-iterator;
  is_finite : (goal.iterator-loop-id).is_finite l.id-iterator;
  marked : (id : ℕ) → has l.fn.ids.keys id ≡ true → has l.id-iterator id ≡ false → id % 65536 < length l.marks.items → is_marked l.marks.items (id % 65536) ≡ true;
}
