use Rattle.std.proofs.Common.{◌≡◌, ◌+◌, List, length, refl, ap, subst, arith}
use Rattle.fts_turn.specs.Promises.{opening_of, seat_number, seat_seen}
use Rattle.fts_steps.specs.Running.{What}
use Rattle.fts_steps.specs.Step.{to_list, no_memory, changes_of}
use Rattle.fts_steps.specs.Answers.{listing_answer_of}
use Rattle.fts_engine.specs.Tally.{tally}
use Rattle.fts_shared.specs.History.{noted, read_fault}
use Rattle.fts_shared.specs.Shared.{IsGivenBack}
use Rattle.fts_shared.proofs.Histories.{stands_told}
use Rattle.fts_shared.proofs.InTurn.{in_turn, no_step}
use Rattle.fts_shared.proofs.in_turn.list_in_turn.Goals as goal

pub returns-then-value-ge-MOST_READ_FAULTS-clause-steps : goal.returns-then-value-ge-MOST_READ_FAULTS-clause-steps
returns-then-value-ge-MOST_READ_FAULTS-clause-steps g c =
    let took = c.take-value.ensures in
    let gave = c.give.ensures in
    let engine = c.take-value.result.engine in
    in_turn c.args.turn.now c.args.seat.now c.take-value.new.seat c.give.new.seat (to_list c.args.kind) no_memory c.take-value.result engine record {
      stood = took.stands;
      begins = took.seen;
      own = took.own;
      same = took.same;
      gave = took.gave;
      turns = took.turns;
      step = no_step engine (to_list c.args.kind) refl;
      of = tt;
      back = record { rest = gave.rest; seen = gave.seen; gave = gave.gave; same = gave.same; turns = gave.turns };
    }

pub give_back-requires-clause-stands : goal.give_back-requires-clause-stands
give_back-requires-clause-stands g c =
    let n = seat_number c.take-value.new.seat in
    let told = c.fault_of_listing.ensures in
    let counted = c.count.ensures in
    let many = ap length told in
    let same = ap tally c.listing-made.ensures.same in
    let count : tally c.listing-made.new.self + (c.take-value.result.read_faults + c.count.result)
    ≡ (tally c.take-value.result.engine + c.take-value.result.read_faults) + length (changes_of (to_list c.args.kind) (listing_answer_of c.listing-made.result)) =
    omega (arith, counted, many, same) in
    stands_told (opening_of c.args.turn.now) c.take-value.result _ (seat_seen c.take-value.new.seat) (to_list c.args.kind) (listing_answer_of c.listing-made.result) n
    c.take-value.ensures.stands c.listing-made.ensures.steps tt count (read_fault c.fault_of_listing.result) told

pub returns-clause-steps : goal.returns-clause-steps
returns-clause-steps g c =
    let took = c.take-value.ensures in
    let n = seat_number c.take-value.new.seat in
    in_turn c.args.turn.now c.args.seat.now c.take-value.new.seat c.give_back.new.seat (to_list c.args.kind) (listing_answer_of c.listing-made.result) c.take-value.result c.listing-made.new.self record {
      stood = took.stands;
      begins = took.seen;
      own = took.own;
      same = took.same;
      gave = took.gave;
      turns = took.turns;
      step = c.listing-made.ensures.steps;
      of = tt;
      back = subst (λ (whats : List What). IsGivenBack c.args.turn.now (noted n whats) c.take-value.new.seat c.give_back.new.seat) c.fault_of_listing.ensures c.give_back.ensures;
    }
