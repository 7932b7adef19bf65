use Rattle.std.proofs.Common.{◌≡◌, All, length}
use Rattle.fts_commits.specs.Fits.{FitsColumns, FitsNumbers}
use Rattle.fts_engine_tests.proofs.tests.many_rows.Given as goal

abbrev pub invariant-loop-key : goal.invariant-loop-key
invariant-loop-key l = record {
  fit : All (FitsColumns 2) l.changes.items;
  numbers : All FitsNumbers l.changes.items;
  count : length l.changes.items ≡ l.key;
}
