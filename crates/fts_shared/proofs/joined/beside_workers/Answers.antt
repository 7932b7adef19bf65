use Rattle.std.proofs.Common.{◌≡◌, ◌≤◌, ◌++◌, ◌∷◌, [], ◌∙◌, length, subst, sym, ap, arith, rules, vec_capacity}
use Rattle.fts_script.specs.Script.{lines_in}
use Rattle.fts_turn.specs.Promises.{IsSeat, Numbered}
use Rattle.fts_shared.proofs.Serving.{both_last, two_longer, front_of, last_two, done_many}
use Rattle.fts_shared.proofs.joined.beside_workers.Goals as goal

pub beside_both-optimizer-requires-clause-rest : goal.beside_both-optimizer-requires-clause-rest
beside_both-optimizer-requires-clause-rest g c κs within =
    let turn = c.args.context.now.turn.now in
    let first = c.pop-2.new.self.items in
    let items = both_last c.args.sessions.seats.items c.pop.new.self.items first c.in-Some-pop.sync c.in-Some.optimizer c.in-Some.ensures.items c.in-Some-pop.ensures.items in
    let next = last_two (IsSeat turn) c.in-Some-pop.sync c.in-Some.optimizer 0 first (subst (Numbered (IsSeat turn) 0) items c.requires.seats) in
    (next.0.rest, next.1.rest)

pub beside_both-optimizer-requires-clause-ready : goal.beside_both-optimizer-requires-clause-ready
beside_both-optimizer-requires-clause-ready g c κs within =
    let turn = c.args.context.now.turn.now in
    let first = c.pop-2.new.self.items in
    let items = both_last c.args.sessions.seats.items c.pop.new.self.items first c.in-Some-pop.sync c.in-Some.optimizer c.in-Some.ensures.items c.in-Some-pop.ensures.items in
    let long = ap length items ∙ two_longer first c.in-Some-pop.sync c.in-Some.optimizer in
    let count = c.requires.count in
    let row = c.requires.row.1 in
    record {
      seats = front_of (IsSeat turn) 0 first (c.in-Some-pop.sync ∷ c.in-Some.optimizer ∷ []) (subst (Numbered (IsSeat turn) 0) items c.requires.seats);
      count = omega (arith, long, count);
      none = c.requires.row.0;
      room = omega (arith, long, count, row);
    }

pub push_reserved-requires : goal.push_reserved-requires
push_reserved-requires g c =
    let turn = c.args.context.now.turn.now in
    let first = c.pop-2.new.self.items in
    let done = c.beside_both-optimizer.result.1.1 in
    let items = both_last c.args.sessions.seats.items c.pop.new.self.items first c.in-Some-pop.sync c.in-Some.optimizer c.in-Some.ensures.items c.in-Some-pop.ensures.items in
    let long = ap length items ∙ two_longer first c.in-Some-pop.sync c.in-Some.optimizer in
    let many = done_many (lines_in c.args.context.now.script.now) turn first done.0.items c.args.sessions.works.items done.1.items c.beside_both-optimizer.ensures.done in
    let room = c.beside_both-optimizer.ensures.room in
    let kept : vec_capacity c.args.sessions.seats ≤ vec_capacity c.pop-2.new.self = search rules in
    let whole : length c.args.sessions.seats.items ≤ vec_capacity c.args.sessions.seats = search rules in
    omega (arith, long, many, room, kept, whole)

pub push_reserved-requires-2 : goal.push_reserved-requires-2
push_reserved-requires-2 g c =
    let turn = c.args.context.now.turn.now in
    let first = c.pop-2.new.self.items in
    let done = c.beside_both-optimizer.result.1.1 in
    let items = both_last c.args.sessions.seats.items c.pop.new.self.items first c.in-Some-pop.sync c.in-Some.optimizer c.in-Some.ensures.items c.in-Some-pop.ensures.items in
    let long = ap length items ∙ two_longer first c.in-Some-pop.sync c.in-Some.optimizer in
    let many = done_many (lines_in c.args.context.now.script.now) turn first done.0.items c.args.sessions.works.items done.1.items c.beside_both-optimizer.ensures.done in
    let room = c.beside_both-optimizer.ensures.room in
    let kept : vec_capacity c.args.sessions.seats ≤ vec_capacity c.pop-2.new.self = search rules in
    let whole : length c.args.sessions.seats.items ≤ vec_capacity c.args.sessions.seats = search rules in
    omega (arith, long, many, room, kept, whole, c.push_reserved.ensures.len, c.push_reserved.ensures.capacity)

pub returns : goal.returns
returns g c =
    let all = c.beside_both-optimizer in
    record {
      first = c.pop-2.new.self.items;
      first' = all.result.1.1.0.items;
      sync = c.in-Some-pop.sync;
      sync' = all.result.1.0.0;
      optimizer = c.in-Some.optimizer;
      optimizer' = all.result.0.0;
      synced = all.result.1.0.1;
      optimized = all.result.0.1;
      were = both_last c.args.sessions.seats.items c.pop.new.self.items c.pop-2.new.self.items c.in-Some-pop.sync c.in-Some.optimizer c.in-Some.ensures.items c.in-Some-pop.ensures.items;
      are = both_last c.push_reserved-2.new.self.items c.push_reserved.new.self.items all.result.1.1.0.items all.result.1.0.0 all.result.0.0 c.push_reserved-2.ensures.items c.push_reserved.ensures.items;
      sessions = all.ensures.done;
      syncs = all.ensures.sync;
      optimizes = all.ensures.optimizer;
      met_is = c.worse.ensures;
    }
