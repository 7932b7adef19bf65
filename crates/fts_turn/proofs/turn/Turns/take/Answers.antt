use Rattle.std.proofs.Common.{◌∙◌, ap, rules, Some}
use Rattle.fts_turn.specs.Steps.{Seated}
use Rattle.fts_turn.proofs.Words.{may_draw, waits_after, taken_first, has_turn_after}
use Rattle.fts_turn.proofs.turn.Turns.take.Goals as goal

pub fetch_add-ticket-requires : goal.fetch_add-ticket-requires
fetch_add-ticket-requires g c =
    let t = g.T.Historied in
    (c.requires.at.table, search rules, may_draw t.stands_for t.at_first t.by c.args.self.now c.args.seat.now _ c.requires)

pub wait-requires : goal.wait-requires
wait-requires g c =
    let t = g.T.Historied in
    let drew = c.fetch_add-ticket.ensures in
    waits_after t.stands_for t.at_first t.by c.args.self.now c.args.seat.now _ _ c.requires (drew.0 ∙ c.requires.at.table) drew.2

pub exchange-requires : goal.exchange-requires
exchange-requires g c =
    let w = c.wait.ensures in
    (w.table ∙ c.fetch_add-ticket.ensures.0 ∙ c.requires.at.table, (Some w.takes.value, taken_first _ _ _ (ap (λ (x : Seated g.row.T.Denot g.row.T-Entry.Denot). x.1) w.takes.now)))

pub returns-clause-turn : goal.returns-clause-turn
returns-clause-turn g c =
    let t = g.T.Historied in
    let drew = c.fetch_add-ticket.ensures in
    let w = c.wait.ensures in
    let out = c.exchange.ensures in
    has_turn_after t.stands_for t.by c.args.self.now c.args.seat.now record { inside = c.fetch_add-ticket.new.seat } c.wait.new.seat _ c.fetch_add-ticket.result c.requires drew.2 w (out.0 ∙ w.table ∙ drew.0 ∙ c.requires.at.table) out.3
