use Rattle.std.proofs.Common.{length}
use Rattle.fts_sql.proofs.reader.+can_end.Given as goal

abbrev pub decreases-can_end : goal.decreases-can_end
decreases-can_end l = length l.ahead.now
