use Rattle.std.proofs.Common.{refl}
use Rattle.fts_steps.specs.Step.{to_measure, measured}
use Rattle.fts_shared.proofs.InTurn.{in_turn}
use Rattle.fts_shared.proofs.in_turn.measure_in_turn.Goals as goal

pub returns-clause-steps : goal.returns-clause-steps
returns-clause-steps g c =
    let took = c.take-value.ensures in
    let gave = c.give.ensures in
    in_turn c.args.turn.now c.args.seat.now c.take-value.new.seat c.give.new.seat to_measure (measured c.cache_size-size.result) c.take-value.result c.take-value.result.engine record {
      stood = took.stands;
      begins = took.seen;
      own = took.own;
      same = took.same;
      gave = took.gave;
      turns = took.turns;
      step = c.cache_size-size.ensures;
      of = refl;
      back = record { rest = gave.rest; seen = gave.seen; gave = gave.gave; same = gave.same; turns = gave.turns };
    }
