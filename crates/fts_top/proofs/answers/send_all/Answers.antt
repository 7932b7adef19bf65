use Rattle.std.proofs.Common.{◌≡◌, ◌+◌, ◌++◌, ◌∷◌, [], ◌∙◌, take, arith, refl, sym, subst, ap, Option}
use Rattle.std.proofs.lemmas.List.{append-nil, take_more, take_all}
use Rattle.std.specs.Prelude.{Result}
use Rattle.fts_schema.specs.declared.reply.Reply.{Reply}
use Rattle.fts_top.specs.declared.ends.Unsent.{Unsent}
use Rattle.fts_top.specs.Answers.{told, SendsOne}
use Rattle.fts_top.specs.Talk.{texts_of}
use Rattle.fts_top.proofs.Sending.{sent_more, cut_at}
use Rattle.fts_top.proofs.answers.send_all.Goals as goal

pub loop-reply-init : goal.loop-reply-init
loop-reply-init g c = record { sent = λ tells. sym (append-nil (g.O.Sink.holds c.args.out.now)); calm = refl }

pub loop-reply-preserved : goal.loop-reply-preserved
loop-reply-preserved g c =
    let replies = c.args.replies.now in
    let i = c.loop-reply.reply-index in
    let reply = c.reply-item.result in
    let more : take (i + 1) replies ≡ take i replies ++ reply ∷ [] =
    take_more replies i reply c.loop-reply-test.true ∙ ap (λ (x : Option Reply). take i replies ++ x ∷ []) (sym c.reply-item.is) in
    record {
      sent = λ tells.
          sent_more (take i replies) reply (g.O.Sink.holds c.args.out.now) (g.O.Sink.holds c.loop-reply.out) (g.O.Sink.holds c.send_one.new.out) (c.loop-reply.invariant.sent tells)
          (subst (λ (r : Result (Unit {0}) Unsent). SendsOne r reply (g.O.Sink.holds c.loop-reply.out) (g.O.Sink.holds c.send_one.new.out)) c.in-Ok.is (c.send_one.ensures.sends tells))
          ∙ ap (λ rs. g.O.Sink.holds c.args.out.now ++ texts_of (told rs)) (sym more);
      calm = c.send_one.ensures.write.calm (λ is. cc) ∙ c.loop-reply.invariant.calm;
    }

pub returns-in-Err-clause-sends : goal.returns-in-Err-clause-sends
returns-in-Err-clause-sends g c tells =
    let replies = c.args.replies.now in
    let i = c.loop-reply.reply-index in
    let reply = c.reply-item.result in
    let more : take (i + 1) replies ≡ take i replies ++ reply ∷ [] =
    take_more replies i reply c.loop-reply-test.true ∙ ap (λ (x : Option Reply). take i replies ++ x ∷ []) (sym c.reply-item.is) in
    cut_at replies i reply (g.O.Sink.holds c.args.out.now) (g.O.Sink.holds c.loop-reply.out) (g.O.Sink.holds c.send_one.new.out) c.in-Err.unsent more (c.loop-reply.invariant.sent tells)
    (subst (λ (r : Result (Unit {0}) Unsent). SendsOne r reply (g.O.Sink.holds c.loop-reply.out) (g.O.Sink.holds c.send_one.new.out)) c.in-Err.is (c.send_one.ensures.sends tells))

pub returns-clause-sends : goal.returns-clause-sends
returns-clause-sends g c tells =
    c.loop-reply.invariant.sent tells
    ∙ ap (λ rs. g.O.Sink.holds c.args.out.now ++ texts_of (told rs)) (take_all c.loop-reply.reply-index c.args.replies.now (omega (arith, c.loop-reply-test.false)))
