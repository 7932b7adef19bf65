use Rattle.std.proofs.Common.{◌∙◌, rules}
use Rattle.fts_turn.proofs.Words.{put_in, may_raise, may_leave, rests_after}
use Rattle.fts_turn.proofs.turn.Turns.give.Goals as goal

pub fetch_add-requires : goal.fetch_add-requires
fetch_add-requires g c =
    let t = g.T.Historied in
    let r = c.requires in
    (r.turn.at.table, search rules, may_raise t.stands_for t.at_first t.by c.args.self.now c.args.seat.now _ _ c.args.value _ r.turn r.count r.own (g.met.T.Historied.few _ _ _ r.stands))

pub fetch_add-requires-2 : goal.fetch_add-requires-2
fetch_add-requires-2 g c =
    let t = g.T.Historied in
    let r = c.requires in
    let is = put_in r.turn.at.account _ c.args.value _ _ _ r.turn.at.one r.turn.holds c.fetch_add.ensures.2 c.exchange.ensures.3 in
    (c.exchange.ensures.0 ∙ c.fetch_add.ensures.0 ∙ r.turn.at.table, search rules, may_leave t.stands_for t.at_first t.by c.args.self.now c.args.seat.now _ _ _ c.args.value _ r.turn c.args.self.now.slots is r.stands)

pub returns-clause-rest : goal.returns-clause-rest
returns-clause-rest g c =
    let t = g.T.Historied in
    let r = c.requires in
    let is = put_in r.turn.at.account _ c.args.value _ _ _ r.turn.at.one r.turn.holds c.fetch_add.ensures.2 c.exchange.ensures.3 in
    rests_after t.stands_for t.at_first t.by c.args.self.now c.args.seat.now _ _ c.args.value _ r.turn (c.fetch_add-2.ensures.0 ∙ c.exchange.ensures.0 ∙ c.fetch_add.ensures.0 ∙ r.turn.at.table) is c.fetch_add-2.ensures.2
