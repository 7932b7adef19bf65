use Rattle.std.proofs.Common.{◌+◌, ◌*◌, vec_len}
use Rattle.fts_turn.proofs.tests.+fn-raise_together-join+arg2+raise_together.Given as goal

abbrev pub decreases-join+arg2 : goal.decreases-join+arg2
decreases-join+arg2 g l = 2 * vec_len l.seats + 1

abbrev pub decreases-raise_together : goal.decreases-raise_together
decreases-raise_together g l = 2 * vec_len l.seats
