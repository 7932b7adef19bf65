use Rattle.std.proofs.Common.{◌≡◌, ◌+◌, ◌++◌, ◌∷◌, [], ◌∙◌, take, arith, sym, ap, Option}
use Rattle.std.proofs.lemmas.List.{take_more, take_all}
use Rattle.fts_schema.specs.declared.reply.Reply.{Reply}
use Rattle.fts_workers.specs.declared.health.Health.{Health}
use Rattle.fts_workers.specs.Health.{worse, health_of_all}
use Rattle.fts_top.specs.Answers.{told}
use Rattle.fts_top.proofs.Sending.{met_more}
use Rattle.fts_top.proofs.answers.met_by.Goals as goal

pub loop-reply-preserved : goal.loop-reply-preserved
loop-reply-preserved c =
    let replies = c.args.replies.now in
    let i = c.loop-reply.reply-index in
    let reply = c.reply-item.result in
    let more : take (i + 1) replies ≡ take i replies ++ reply ∷ [] =
    take_more replies i reply c.loop-reply-test.true ∙ ap (λ (x : Option Reply). take i replies ++ x ∷ []) (sym c.reply-item.is) in
    c.worse-met.ensures ∙ ap (λ (h : Health). worse c.loop-reply.met h) c.met_in.ensures
    ∙ ap (λ (h : Health). worse h (health_of_all (told (reply ∷ [])))) c.loop-reply.invariant
    ∙ sym (ap (λ rs. health_of_all (told rs)) more ∙ met_more (take i replies) reply)

pub returns : goal.returns
returns c =
    c.loop-reply.invariant ∙ ap (λ rs. health_of_all (told rs)) (take_all c.loop-reply.reply-index c.args.replies.now (omega (arith, c.loop-reply-test.false)))
