use Rattle.std.proofs.Common.{replicate}
use Rattle.fts_turn.specs.Promises.{seat_number}
use Rattle.fts_turn.proofs.tests.raise_once.Given as goal

abbrev pub ghosts-give : goal.ghosts-give
ghosts-give g a = record { added = replicate a.added record { by = seat_number a.seat.now } }
