use Rattle.std.proofs.Common.{vec_len}
use Rattle.fts_shared.proofs.joined.+place_all.Given as goal

abbrev pub decreases-place_all : goal.decreases-place_all
decreases-place_all g l = vec_len l.seats.now
