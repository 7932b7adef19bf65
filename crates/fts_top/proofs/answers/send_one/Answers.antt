use Rattle.std.proofs.Common.{◌≡◌, subst, sym, Option}
use Rattle.std.proofs.lemmas.List.{append-nil}
use Rattle.fts_schema.specs.declared.reply.Reply.{Reply}
use Rattle.fts_top.specs.Answers.{SendsOne}
use Rattle.fts_top.proofs.Sending.{one_sent}
use Rattle.fts_top.proofs.answers.send_one.Goals as goal

pub returns-in-Some-clause-sends : goal.returns-in-Some-clause-sends
returns-in-Some-clause-sends g c tells =
    subst (λ (o : Option Reply). SendsOne c.send.result o (g.O.Sink.holds c.args.out.now) (g.O.Sink.holds c.send.new.out)) (sym c.in-Some.is)
    (one_sent c.send.result c.in-Some.reply (g.O.Sink.holds c.args.out.now) (g.O.Sink.holds c.send.new.out) (c.send.ensures.sends tells) c.send.ensures.fixed)
