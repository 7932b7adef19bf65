use Rattle.std.proofs.Common.{◌≡◌, ◌++◌, map, length, ◌≤◌}
use Rattle.fts_types.specs.Row.{row_of}
use Rattle.fts_commits.specs.Turn.{RowsAscend}
use Rattle.fts_rows.proofs.rows.Rows.push_all.Given as goal

abbrev pub invariant-loop-row : goal.invariant-loop-row
invariant-loop-row l = record {
  can_next : (goal.iterator-loop-row).can_next l.row-iterator;
  is_finite : (goal.iterator-loop-row).is_finite l.row-iterator;
  list : l.self.rows.list ++ map row_of l.row-iterator.rest.items ≡ l.initial.self.rows.list ++ map row_of l.fn.births.items;
  ids : RowsAscend l.self.rows.largest l.largest (map row_of l.row-iterator.rest.items);
  room : length l.row-iterator.rest.items ≤ l.self.room;
  limits : l.self.limits ≡ l.initial.self.limits;
}
