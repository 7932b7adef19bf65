use Rattle.std.proofs.Common.{◌≤◌, length, rules, vec_capacity, ap, ◌∙◌, sym, subst, arith, All}
use Rattle.fts_script.specs.Script.{lines_in}
use Rattle.fts_shared.specs.Places.{Pairwise, at_places, IsReady, HasSeat, HasTalked}
use Rattle.fts_shared.proofs.Laying.{as_long, all_written, as_many, all_ready, all_seated, all_done}
use Rattle.fts_shared.proofs.joined.execute_seated.Goals as goal

pub execute_each-requires-after_bounds : goal.execute_each-requires-after_bounds
execute_each-requires-after_bounds g c κs within =
    subst (All (IsReady c.args.context.now.turn.now)) (sym (c.deref_mut.ensures.value ∙ c.place_all.ensures.places))
    (all_ready (lines_in c.args.context.now.script.now) c.args.context.now.turn.now 0 c.args.sessions.seats.items c.args.sessions.works.items c.requires.seats)

pub leave_all-requires-clause-seated : goal.leave_all-requires-clause-seated
leave_all-requires-clause-seated g c =
    let P = HasTalked {rows = g.D.Disk} {index = g.E.Disk} (lines_in c.args.context.now.script.now) c.args.context.now.turn.now in
    let olds = c.deref_mut.result.now in
    let news = c.execute_each.new.places in
    let items = ap length c.deref_mut.ensures.value in
    let long = c.deref_mut.ensures.len in
    let many = as_long P olds news c.execute_each.ensures in
    let whole = all_written c.place_all.new.places.len c.place_all.new.places.items news (omega (arith, many, items)) (omega (arith, items, long)) in
    subst (All HasSeat) (sym whole) (all_seated (lines_in c.args.context.now.script.now) c.args.context.now.turn.now olds news c.execute_each.ensures)

pub leave_all-requires-clause-room : goal.leave_all-requires-clause-room
leave_all-requires-clause-room g c =
    let P = HasTalked {rows = g.D.Disk} {index = g.E.Disk} (lines_in c.args.context.now.script.now) c.args.context.now.turn.now in
    let olds = c.deref_mut.result.now in
    let news = c.execute_each.new.places in
    let items = ap length c.deref_mut.ensures.value in
    let long = c.deref_mut.ensures.len in
    let many = as_long P olds news c.execute_each.ensures in
    let whole = ap length (all_written c.place_all.new.places.len c.place_all.new.places.items news (omega (arith, many, items)) (omega (arith, items, long))) in
    let placed = ap length c.place_all.ensures.places in
    let seated = as_many {rows = g.D.Disk} {index = g.E.Disk} c.args.sessions.seats.items c.args.sessions.works.items c.requires.count in
    let count = c.requires.count in
    let room = c.place_all.ensures.room in
    let seats : length c.args.sessions.seats.items ≤ vec_capacity c.args.sessions.seats = search rules in
    let works : length c.args.sessions.works.items ≤ vec_capacity c.args.sessions.works = search rules in
    (omega (arith, whole, many, items, placed, seated, room.0, seats), omega (arith, whole, many, items, placed, seated, count, room.1, works))

pub returns-clause-done : goal.returns-clause-done
returns-clause-done g c =
    let P = HasTalked {rows = g.D.Disk} {index = g.E.Disk} (lines_in c.args.context.now.script.now) c.args.context.now.turn.now in
    let olds = c.deref_mut.result.now in
    let news = c.execute_each.new.places in
    let items = ap length c.deref_mut.ensures.value in
    let long = c.deref_mut.ensures.len in
    let many = as_long P olds news c.execute_each.ensures in
    let whole = all_written c.place_all.new.places.len c.place_all.new.places.items news (omega (arith, many, items)) (omega (arith, items, long)) in
    let count = c.leave_all.ensures.count in
    all_done (lines_in c.args.context.now.script.now) c.args.context.now.turn.now c.args.sessions.seats.items c.leave_all.new.seats.items c.args.sessions.works.items c.leave_all.new.works.items
    c.requires.count (omega (arith, count.0, count.1))
    (subst (λ places. Pairwise P places (at_places c.leave_all.new.seats.items c.leave_all.new.works.items)) (c.deref_mut.ensures.value ∙ c.place_all.ensures.places)
    (subst (Pairwise P olds) (sym whole ∙ c.leave_all.ensures.places) c.execute_each.ensures))
