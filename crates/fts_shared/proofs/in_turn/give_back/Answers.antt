use Rattle.std.proofs.Common.{sym, subst}
use Rattle.fts_turn.specs.Histories.{AllBy}
use Rattle.fts_turn.specs.Promises.{seat_number}
use Rattle.fts_steps.specs.Running.{Entry}
use Rattle.fts_shared.proofs.Histories.{all_own}
use Rattle.fts_shared.proofs.in_turn.give_back.Goals as goal

pub give-requires-clause-own : goal.give-requires-clause-own
give-requires-clause-own g c =
    subst (AllBy (λ (entry : Entry). entry.by) (seat_number c.args.seat.now)) (sym c.requires.added)
    (all_own (seat_number c.args.seat.now) (g.W.Told.adds c.args.told.now))
