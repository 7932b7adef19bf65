use Rattle.std.proofs.Common.{refl, subst, None}
use Rattle.fts_script.specs.Script.{lines_in}
use Rattle.fts_shared.specs.Shared.{seat_sight}
use Rattle.fts_shared.specs.Talk.{TalksOn}
use Rattle.fts_shared.specs.Work.{lines_at}
use Rattle.fts_shared.proofs.Seats.{seat_talks, same_turn, same_seat, rests_there, same_there, settled}
use Rattle.fts_shared.proofs.at_work.one_session.Goals as goal

pub returns : goal.returns
returns g c =
    let turn = c.args.context.now.turn.now in
    let lines = lines_in c.args.context.now.script.now in
    let talks = c.talk.ensures.talks in
    let same = same_turn (λ s. s.placed) talks.calls _ c.talk.new.steps talks.made in
    let seat = same_seat (λ s. s.placed) talks.calls _ c.talk.new.steps talks.made in
    let is = c.into_seat.ensures.is in
    record {
      rest = rests_there turn c.args.seat c.into_seat.result c.steps_at-steps.result.placed c.talk.new.steps.placed c.steps_at-steps.ensures same is c.into_seat.ensures.rest;
      seat_is = same_there turn c.args.seat c.into_seat.result c.steps_at-steps.result.placed c.talk.new.steps.placed c.steps_at-steps.ensures same is seat;
      work_is = refl;
      left = _;
      talks = subst (λ places. TalksOn (seat_sight {rows = g.D.Disk} {index = g.E.Disk}) None (lines_at lines places) c.talk.new.replies.items c.talk.new.session.transaction
          (turn, c.args.seat) (turn, c.into_seat.result)) c.deref.ensures.value
          (settled turn c.args.seat c.into_seat.result c.steps_at-steps.result.placed c.talk.new.steps.placed c.steps_at-steps.ensures same is
          (λ old new. TalksOn (seat_sight {rows = g.D.Disk} {index = g.E.Disk}) None (lines_at lines c.deref.result.now) c.talk.new.replies.items c.talk.new.session.transaction old new)
          (subst (λ from. TalksOn (seat_sight {rows = g.D.Disk} {index = g.E.Disk}) from (lines_at lines c.deref.result.now) c.talk.new.replies.items c.talk.new.session.transaction c.steps_at-steps.result.placed c.talk.new.steps.placed)
          c.new-session.ensures.closed (seat_talks (λ s. s.placed) _ c.talk.new.steps _ _ _ _ talks)));
    }
