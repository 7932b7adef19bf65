use Rattle.std.proofs.Common.{◌≡◌, ℕ, take}
use Rattle.std.specs.List.{list_any}
use Rattle.fts_ids.specs.Ids.{has}
use Rattle.fts_index.specs.Gathered.{table_has}
use Rattle.fts_index.proofs.gather.table_lists.Given as goal

abbrev pub invariant-loop-entry : goal.invariant-loop-entry
invariant-loop-entry l = (id : ℕ) → list_any (λ list. has list id) l.lists.items ≡ list_any (λ e. table_has l.fn.index id e.0.now) (take l.entry-index l.entry-items)
