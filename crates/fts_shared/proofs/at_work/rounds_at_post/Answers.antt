use Rattle.std.proofs.Common.{◌++◌}
use Rattle.fts_workers.specs.Workers.{Works, all_steps}
use Rattle.fts_shared.specs.Shared.{seat_sight}
use Rattle.fts_shared.proofs.Seats.{seat_works, same_turn, same_seat, rests_there, same_there, settled}
use Rattle.fts_shared.proofs.at_work.rounds_at_post.Goals as goal

pub returns : goal.returns
returns g c =
    let turn = c.args.context.now.turn.now in
    let works = c.make_rounds-met.ensures in
    let calls = all_steps works.rounds ++ works.last in
    let same = same_turn (λ s. s.placed) calls _ c.make_rounds-met.new.steps works.made in
    let seat = same_seat (λ s. s.placed) calls _ c.make_rounds-met.new.steps works.made in
    let is = c.into_seat.ensures.is in
    record {
      rest = rests_there turn c.args.post.seat c.into_seat.result c.steps_at-steps.result.placed c.make_rounds-met.new.steps.placed c.steps_at-steps.ensures same is c.into_seat.ensures.rest;
      seat_is = same_there turn c.args.post.seat c.into_seat.result c.steps_at-steps.result.placed c.make_rounds-met.new.steps.placed c.steps_at-steps.ensures same is seat;
      works = settled turn c.args.post.seat c.into_seat.result c.steps_at-steps.result.placed c.make_rounds-met.new.steps.placed c.steps_at-steps.ensures same is
          (Works (seat_sight {rows = g.D.Disk} {index = g.E.Disk}) g.W.Rounds.round c.make_rounds-met.result)
          (seat_works (λ s. s.placed) g.W.Rounds.round c.make_rounds-met.result _ c.make_rounds-met.new.steps works);
    }
