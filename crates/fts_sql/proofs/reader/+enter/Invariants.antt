use Rattle.std.proofs.Common.{length}
use Rattle.fts_sql.proofs.reader.+enter.Given as goal

abbrev pub decreases-enter : goal.decreases-enter
decreases-enter l = length l.ahead.now
