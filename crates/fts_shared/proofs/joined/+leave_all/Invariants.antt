use Rattle.std.proofs.Common.{vec_len}
use Rattle.fts_shared.proofs.joined.+leave_all.Given as goal

abbrev pub decreases-leave_all : goal.decreases-leave_all
decreases-leave_all g l = vec_len l.places.now
