use Rattle.std.proofs.Common.{length}
use Rattle.fts_parts_tests.proofs.aux.checks.+is_before.Given as goal

abbrev pub decreases-is_before : goal.decreases-is_before
decreases-is_before l = length l.batch.now
