use Rattle.std.proofs.Common.{length}
use Rattle.fts_parts_tests.proofs.aux.checks.+ascend.Given as goal

abbrev pub decreases-ascend : goal.decreases-ascend
decreases-ascend l = length l.batch.now
