use Rattle.std.proofs.Common.{length}
use Rattle.fts_aux.proofs.tables.+next_in.Given as goal

abbrev pub decreases-next_in : goal.decreases-next_in
decreases-next_in l = length l.tables.now
