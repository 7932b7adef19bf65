use Rattle.std.proofs.Common.{length}
use Rattle.fts_parts_tests.proofs.aux.checks.+are_after.Given as goal

abbrev pub decreases-are_after : goal.decreases-are_after
decreases-are_after l = length l.nodes.now
