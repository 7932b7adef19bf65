use Rattle.fts_turn.specs.Promises.{seat_number}
use Rattle.fts_steps.specs.Step.{to_optimize, changes_of}
use Rattle.fts_steps.specs.Answers.{optimize_answer_of}
use Rattle.fts_shared.specs.History.{noted}
use Rattle.fts_shared.proofs.in_turn.optimize_in_turn.Given as goal

abbrev pub ghosts-give_back : goal.ghosts-give_back
ghosts-give_back g a = record { added = noted (seat_number a.seat.now) (changes_of to_optimize (optimize_answer_of a.told.now.made.now)) }
