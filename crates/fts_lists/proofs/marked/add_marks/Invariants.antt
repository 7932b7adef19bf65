use Rattle.std.proofs.Common.{◌≡◌, ◌≤◌, ℕ, length}
use Rattle.fts_ids.specs.Ids.{has}
use Rattle.fts_lists.specs.Ids.{AreMarked}
use Rattle.fts_lists.proofs.marked.add_marks.Given as goal

abbrev pub invariant-loop-id : goal.invariant-loop-id
invariant-loop-id l = record {
  marked : AreMarked l.marks.items l.ids;
  next : length l.marks.items ≡ l.id;
  tells : (later : ℕ) → l.id ≤ later → has l.walk later ≡ has l.ids later;
}
