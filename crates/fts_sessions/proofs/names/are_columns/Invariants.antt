use Rattle.std.proofs.Common.{◌≡◌, ◌≤◌, ◌-◌, drop}
use Rattle.fts_sessions.specs.Table.{are_names}
use Rattle.fts_sessions.proofs.names.are_columns.Given as goal

abbrev pub invariant-loop-place : goal.invariant-loop-place
invariant-loop-place l = record {
  behind : l.from ≤ l.place;
  ahead : are_names l.columns (drop l.from l.names) ≡ are_names (drop (l.place - l.from) l.columns) (drop l.place l.names);
}
