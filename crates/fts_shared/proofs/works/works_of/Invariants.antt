use Rattle.std.proofs.Common.{◌≡◌, ◌+◌, ◌≤◌, ◌++◌, map, length, vec_len}
use Rattle.std.specs.Vec.{vec_capacity}
use Rattle.fts_script.specs.Group.{share_of}
use Rattle.fts_shared.specs.Work.{work_share}
use Rattle.fts_shared.proofs.works.works_of.Given as goal

abbrev pub invariant-loop-group : goal.invariant-loop-group
invariant-loop-group l = record {
  can_next : goal.iterator-loop-group.can_next l.group-iterator;
  is_finite : goal.iterator-loop-group.is_finite l.group-iterator;
  room : vec_len l.works + length l.group-iterator.rest.items ≤ vec_capacity l.works;
  shares : map share_of l.fn.groups.items ≡ map work_share l.works.items ++ map share_of l.group-iterator.rest.items;
}
