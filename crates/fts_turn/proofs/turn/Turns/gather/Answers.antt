use Rattle.std.proofs.Common.{rules}
use Rattle.fts_turn.proofs.Closing.{gathers_last, seat_is, may_join, gathers_next}
use Rattle.fts_turn.proofs.turn.Turns.gather.Goals as goal

pub loop-seat-init : goal.loop-seat-init
loop-seat-init g c = gathers_last c.args.self.now c.args.seats.items c.requires.count c.requires.seats _ _ c.in-Some.ensures.items

pub join_seat-requires : goal.join_seat-requires
join_seat-requires g c =
    let t = g.T.Historied in
    let r = c.requires in
    let i = c.loop-seat.invariant in
    let popped = c.in-Some-pop.ensures.items in (
      (seat_is c.args.self.now c.args.seats.items r.count r.seats _ _ _ _ i popped).rest.at.table,
      i.table,
      i.holds_nothing,
      search rules,
      may_join c.args.self.now c.args.seats.items r.count r.seats _ c.loop-seat.all _ _ i popped t.stands_for t.at_first t.by,
    )

pub loop-seat-preserved : goal.loop-seat-preserved
loop-seat-preserved g c =
    let r = c.requires in
    let i = c.loop-seat.invariant in
    let joined = c.join_seat.ensures in
    gathers_next c.args.self.now c.args.seats.items r.count r.seats _ c.loop-seat.all _ _ i c.in-Some-pop.ensures.items _ joined.0 joined.2
