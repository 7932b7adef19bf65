use Rattle.std.proofs.Common.{◌≡◌, ℕ, take}
use Rattle.std.specs.List.{list_any}
use Rattle.fts_ids.specs.Ids.{has}
use Rattle.fts_index.specs.Gathered.{cache_has}
use Rattle.fts_index.proofs.gather.cache_lists.Given as goal

abbrev pub invariant-loop-word : goal.invariant-loop-word
invariant-loop-word l = (id : ℕ) → list_any (λ list. has list id) l.lists.items ≡ list_any (λ w. cache_has l.fn.index id w.now) (take l.word-index l.word-items)
