use Rattle.std.proofs.Common.{◌≡◌, ◌+◌, ◌≤◌, ◌++◌, map, length, vec_len}
use Rattle.std.specs.Vec.{vec_capacity}
use Rattle.fts_script.specs.Group.{share_of}
use Rattle.fts_script.specs.Merge.{items_of}
use Rattle.fts_shared.specs.Work.{work_share, work_replies}
use Rattle.fts_shared.proofs.works.replies_in_order.Given as goal

abbrev pub invariant-loop-work : goal.invariant-loop-work
invariant-loop-work l = record {
  can_next : goal.iterator-loop-work.can_next l.work-iterator;
  is_finite : goal.iterator-loop-work.is_finite l.work-iterator;
  room : vec_len l.groups + length l.work-iterator.rest.items ≤ vec_capacity l.groups;
  room' : vec_len l.replies + length l.work-iterator.rest.items ≤ vec_capacity l.replies;
  shares : map work_share l.fn.works.items ≡ map share_of l.groups.items ++ map work_share l.work-iterator.rest.items;
  told : map work_replies l.fn.works.items ≡ map items_of l.replies.items ++ map work_replies l.work-iterator.rest.items;
}
