use Rattle.std.proofs.Common.{◌≡◌, true, take}
use Rattle.std.specs.List.{list_all}
use Rattle.fts_sql.specs.Reading.{is_in}
use Rattle.fts_sql.proofs.run.split_run.Given as goal

-- each byte so far is in the class
abbrev pub invariant-loop-i : goal.invariant-loop-i
invariant-loop-i l = list_all (is_in l.class) (take l.i l.bytes) ≡ true
