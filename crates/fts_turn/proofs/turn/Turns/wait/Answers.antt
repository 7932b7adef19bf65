use Rattle.std.proofs.Common.{◌≡◌, ◌<◌, ◌^◌, ◌∙◌, rules, arith}
use Rattle.fts_turn.proofs.Words.{may_look, served_after, waits_still}
use Rattle.fts_turn.proofs.turn.Turns.wait.Goals.{else-serving-ticket-via-then-serving-ticket+else-ticket-lt-LAST_TICKET, else-serving-ticket-via-else-serving-ticket}
use Rattle.fts_turn.proofs.turn.Turns.wait.Goals as goal

pub load-serving-requires : goal.load-serving-requires
load-serving-requires g c =
    let t = g.T.Historied in
    let i = c.loop.invariant in
    (i.table ∙ c.requires.at.table, search rules, may_look t.stands_for t.at_first t.by c.args.self.now c.args.seat.now _ _ c.args.ticket _ c.requires i.same)

pub returns-then-ticket-lt-LAST_TICKET : goal.returns-then-ticket-lt-LAST_TICKET
returns-then-ticket-lt-LAST_TICKET g c =
    let t = g.T.Historied in
    let i = c.loop.invariant in
    let l = c.load-serving.ensures in
    served_after t.stands_for t.at_first t.by c.args.self.now c.args.seat.now _ _ c.load-serving.result _ c.requires i.same (l.0 ∙ i.table) c.if-serving-ticket.true c.if-ticket-lt-LAST_TICKET.true l.2

pub loop-preserved : goal.loop-preserved
loop-preserved g c =
    let t = g.T.Historied in
    let i = c.loop.invariant in
    let l = c.load-serving.ensures in
    let not_yet : ¬ ((c.load-serving.result ≡ c.args.ticket) × (c.args.ticket < 2 ^ 63)) = elim c.else-serving-ticket.branch [
      | else-serving-ticket-via-then-serving-ticket+else-ticket-lt-LAST_TICKET w ↦ λ p. let late = w.if-ticket-lt-LAST_TICKET.false in let early = p.1 in omega arith
      | else-serving-ticket-via-else-serving-ticket w ↦ λ p. w.if-serving-ticket.false p.0
    ] in
    record { can_go_on = (tt, tt); table = l.0 ∙ i.table; same = waits_still t.stands_for t.at_first t.by c.args.self.now c.args.seat.now c.args.ticket c.load-serving.result _ _ c.requires i.same not_yet l.2 }
