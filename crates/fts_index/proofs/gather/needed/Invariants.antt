use Rattle.std.proofs.Common.{◌≡◌, ◌||◌, ℕ}
use Rattle.std.specs.List.{list_any}
use Rattle.std.specs.Iterator.Adapters.{zip_first, zip_second}
use Rattle.std.specs.Slice.Iter.{iter_rest}
use Rattle.fts_ids.specs.Ids.{has}
use Rattle.fts_query.specs.Seen.{leaves_seen}
use Rattle.fts_index.specs.Gathered.{is_needed}
use Rattle.fts_index.proofs.gather.needed.Given as goal

abbrev pub invariant-loop-leaf : goal.invariant-loop-leaf
invariant-loop-leaf l = record {
  can_next : (goal.iterator-loop-leaf).can_next l.leaf-iterator;
  is_finite : (goal.iterator-loop-leaf).is_finite l.leaf-iterator;
  here : (id : ℕ) → (list_any (λ list. has list.now id) l.found.items || is_needed (leaves_seen (iter_rest (zip_first l.leaf-iterator))) (iter_rest (zip_second l.leaf-iterator)) id)
      ≡ is_needed (leaves_seen l.leaves) l.lists id;
}
