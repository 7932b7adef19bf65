use Rattle.fts_turn.specs.Promises.{seat_number}
use Rattle.fts_shared.specs.History.{noted, read_fault}
use Rattle.fts_shared.proofs.in_turn.list_in_turn.Given as goal

abbrev pub ghosts-give_back : goal.ghosts-give_back
ghosts-give_back g a = record { added = noted (seat_number a.seat.now) (read_fault a.told.now.fault) }
