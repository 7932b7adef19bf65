use Rattle.std.proofs.Common.{arith}
use Rattle.fts_turn.specs.Promises.{opening_of, seat_number, seat_seen}
use Rattle.fts_steps.specs.Step.{to_optimize, changes_of}
use Rattle.fts_steps.specs.Answers.{optimize_answer_of}
use Rattle.fts_shared.proofs.Histories.{stands_next, same_count}
use Rattle.fts_shared.proofs.InTurn.{in_turn}
use Rattle.fts_shared.proofs.in_turn.optimize_in_turn.Goals as goal

pub give_back-requires-clause-stands : goal.give_back-requires-clause-stands
give_back-requires-clause-stands g c =
    let counted = c.optimize_step-made.ensures.counts.tally_is in
    let many = same_count 0 (changes_of to_optimize (optimize_answer_of c.optimize_step-made.result)) in
    stands_next (opening_of c.args.turn.now) c.take-value.result _ (seat_seen c.take-value.new.seat) to_optimize (optimize_answer_of c.optimize_step-made.result) (seat_number c.take-value.new.seat)
    c.take-value.ensures.stands c.optimize_step-made.ensures.steps tt (omega (arith, counted, many))

pub returns-clause-steps : goal.returns-clause-steps
returns-clause-steps g c =
    let took = c.take-value.ensures in
    in_turn c.args.turn.now c.args.seat.now c.take-value.new.seat c.give_back.new.seat to_optimize (optimize_answer_of c.optimize_step-made.result) c.take-value.result c.optimize_step-made.new.self record {
      stood = took.stands;
      begins = took.seen;
      own = took.own;
      same = took.same;
      gave = took.gave;
      turns = took.turns;
      step = c.optimize_step-made.ensures.steps;
      of = tt;
      back = c.give_back.ensures;
    }
