use Rattle.std.proofs.Common.{◌∙◌, refl, sym}
use Rattle.fts_script.specs.Script.{lines_in}
use Rattle.fts_shared.proofs.Serving.{as_many_seats, still_seats, is_served}
use Rattle.fts_shared.proofs.served.serve_sessions.Goals as goal

pub unseated-engine-requires-clause-count : goal.unseated-engine-requires-clause-count
unseated-engine-requires-clause-count g c =
    let made = c.in-Ok-seated.ensures in
    as_many_seats (lines_in c.args.script.now) c.in-Ok-seated.made.0 c.in-Ok-seated.made.1.items c.args.works.items c.beside_workers-seats.result c.beside_workers-seats.ensures
    made.seats made.unused ∙ made.count ∙ sym made.turn.0

pub unseated-engine-requires-clause-seats : goal.unseated-engine-requires-clause-seats
unseated-engine-requires-clause-seats g c =
    let made = c.in-Ok-seated.ensures in
    still_seats (lines_in c.args.script.now) c.in-Ok-seated.made.0 c.in-Ok-seated.made.1.items c.args.works.items c.beside_workers-seats.result c.beside_workers-seats.ensures
    made.seats made.unused

pub returns-clause-served : goal.returns-clause-served
returns-clause-served g c =
    let made = c.in-Ok-seated.ensures in
    is_served (lines_in c.args.script.now) c.in-Ok-seated.made.0 c.in-Ok-seated.made.1.items c.args.works.items c.beside_workers-seats.result c.beside_workers-seats.ensures
    made.seats made.unused c.args.engine c.unseated-engine.result _ c.last_rounds-engine.result.1 made.turn.1 (made.count ∙ sym made.turn.0) c.unseated-engine.ensures refl
    c.last_rounds-engine.ensures c.worse.ensures
