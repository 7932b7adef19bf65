use Rattle.std.proofs.Common.{◌≤◌, length, take}
use Rattle.fts_script.specs.Script.{lines_in}
use Rattle.fts_script.specs.Group.{shares_of, IsGrouping}
use Rattle.fts_script.proofs.grouping.group_lines.Given as goal

abbrev pub invariant-loop-place : goal.invariant-loop-place
invariant-loop-place l = record {
  grouped : IsGrouping (take l.place (lines_in l.script)) (shares_of l.groups.items);
  few : length l.groups.items ≤ 16;
}
