use Rattle.std.proofs.Common.{◌≡◌, ◌+◌, ◌≤◌, ◌++◌, map, length, vec_len}
use Rattle.std.specs.Vec.{vec_capacity}
use Rattle.std.specs.Iterator.Adapters.{zip_first, zip_second}
use Rattle.fts_query.specs.Seen.{leaves_seen, postings_seen}
use Rattle.fts_engine.specs.Looking.{with_ids}
use Rattle.fts_engine.proofs.looking.paired.Given as goal

abbrev pub invariant-loop-leaf : goal.invariant-loop-leaf
invariant-loop-leaf l = record {
  can_next : (goal.iterator-loop-leaf).can_next l.leaf-iterator;
  is_finite : (goal.iterator-loop-leaf).is_finite l.leaf-iterator;
  room : vec_len l.all + length (zip_first l.leaf-iterator).rest.items ≤ vec_capacity l.all;
  paired : map postings_seen l.all.items ++ with_ids (leaves_seen (zip_first l.leaf-iterator).rest.items) (zip_second l.leaf-iterator).rest.items
      ≡ with_ids (leaves_seen l.fn.leaves.items) l.fn.lists.items;
}
