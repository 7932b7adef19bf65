use Rattle.std.proofs.Common.{◌≡◌, ℕ, take}
use Rattle.std.specs.List.{list_any}
use Rattle.fts_ids.specs.Ids.{has}
use Rattle.fts_index.proofs.gather.any_of.Given as goal

abbrev pub invariant-loop-list : goal.invariant-loop-list
invariant-loop-list l = (id : ℕ) → list_any (λ list. has list.now id) l.all.items ≡ list_any (λ list. has list id) (take l.list-index l.lists)
