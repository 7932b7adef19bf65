use Rattle.std.proofs.Common.{length}
use Rattle.fts_parts_tests.proofs.aux.checks.+come_after.Given as goal

abbrev pub decreases-come_after : goal.decreases-come_after
decreases-come_after l = length l.batch.now
