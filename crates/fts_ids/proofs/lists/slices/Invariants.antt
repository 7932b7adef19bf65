use Rattle.std.proofs.Common.{◌≡◌, ℕ, take, All}
use Rattle.std.specs.List.{list_any}
use Rattle.fts_ids.specs.Ids.{has, Ascend}
use Rattle.fts_ids.proofs.lists.slices.Given as goal

abbrev pub invariant-loop-list : goal.invariant-loop-list
invariant-loop-list l = record {
  ascend : All (λ list. Ascend list.now) l.all.items;
  each : (id : ℕ) → list_any (λ list. has list.now id) l.all.items ≡ list_any (λ list. has list.now id) (take l.list-index l.lists);
}
