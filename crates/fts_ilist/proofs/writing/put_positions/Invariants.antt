use Rattle.std.proofs.Common.{◌≡◌, ◌+◌, ◌*◌, ◌≤◌, ◌++◌, drop, vec_len, vec_capacity}
use Rattle.fts_ilist.specs.Spelling.{items_bytes, position_items, PositionsFrom}
use Rattle.fts_ilist.proofs.writing.put_positions.Given as goal

abbrev pub invariant-loop-position : goal.invariant-loop-position
invariant-loop-position l = record {
  rest : PositionsFrom l.next (drop l.position-index l.positions);
  written : l.out.items ++ items_bytes (position_items l.next (drop l.position-index l.positions)) ≡ l.fn.out.items ++ items_bytes (position_items 0 l.positions);
  len : vec_len l.out ≤ vec_len l.fn.out + 3 * l.position-index;
  capacity : vec_capacity l.fn.out ≤ vec_capacity l.out;
}
