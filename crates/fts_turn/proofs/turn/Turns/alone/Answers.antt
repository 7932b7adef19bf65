use Rattle.std.proofs.Common.{sym, ap}
use Rattle.fts_turn.proofs.Seats.{opens_as, first_is_maker}
use Rattle.fts_turn.proofs.turn.Turns.alone.Goals as goal

pub new-requires : goal.new-requires
new-requires g c =
    let t = g.T.Historied in
    opens_as t.stands_for t.at_first t.by c.of-about.result.value c.args.value _ _ c.of-about.ensures c.in_ok-slots.ensures.ok c.count_at_first-count.ensures (g.met.T.Historied.few _ _ _ c.requires.begins) c.requires.begins

pub returns-in-Ok-clause-seat : goal.returns-in-Ok-clause-seat
returns-in-Ok-clause-seat g c =
    let made = c.in-Ok.ensures.ok in
    first_is_maker _ _ c.of-about.result.value made.2 made.4 (sym (ap (λ k. k.value) made.5))
