use Rattle.std.proofs.Common.{length}
use Rattle.fts_aux.proofs.tables.+any_loose.Given as goal

abbrev pub decreases-any_loose : goal.decreases-any_loose
decreases-any_loose l = length l.tables.now
