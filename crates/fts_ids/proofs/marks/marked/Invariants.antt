use Rattle.std.proofs.Common.{◌≡◌, ℕ, take}
use Rattle.fts_ids.specs.Ids.{Ascend, has}
use Rattle.fts_ids.specs.Marks.{is_marked}
use Rattle.fts_ids.proofs.marks.marked.Given as goal

abbrev pub invariant-loop-place : goal.invariant-loop-place
invariant-loop-place l = record {
  ascend : Ascend l.ids.items;
  each : (id : ℕ) → has l.ids.items id ≡ is_marked (take l.place l.marks) id;
}
