use Rattle.std.proofs.Common.{[], sym, subst, ◌∙◌, arith}
use Rattle.fts_schema.specs.declared.reply.Reply.{Reply}
use Rattle.fts_sessions.specs.Request.{optimizes}
use Rattle.fts_sessions.specs.Execute.{GoesOn}
use Rattle.fts_sessions.proofs.Optimizing.{one_word, one_more, the_last, refuses, ran_out}
use Rattle.fts_sessions.proofs.optimize.make_steps.Goals as goal

pub returns-in-Err : goal.returns-in-Err
returns-in-Err g c = λ settings transaction table is_most is_asks.
    refuses g.S.EngineSteps.sight settings transaction table c.args.most is_most c.args.steps.now c.loop-made.made c.loop-made.words c.loop-made.steps
    (c.loop-made.invariant.within settings transaction table is_most is_asks) c.in-Err.error c.not_made.result c.optimize_step.new.self c.loop-made-test.true c.in-Err.ensures c.not_made.ensures

pub returns-then-not-may_go_on : goal.returns-then-not-may_go_on
returns-then-not-may_go_on g c = λ settings transaction table is_most is_asks.
    subst (λ (reply : Reply). GoesOn g.S.EngineSteps.sight settings transaction (optimizes table) [] c.args.steps.now reply c.optimize_step.new.self) (sym c.optimized.ensures)
    (the_last g.S.EngineSteps.sight settings transaction table c.args.most is_most c.args.steps.now c.loop-made.made c.loop-made.words c.loop-made.steps
    (c.loop-made.invariant.within settings transaction table is_most is_asks) c.in-Ok.step c.words_of-words.result c.words_of-words.ensures c.loop-made-test.true c.optimize_step.new.self
    c.in-Ok.ensures (sym c.may_go_on.ensures ∙ c.if-not-may_go_on.true))

pub loop-made-preserved : goal.loop-made-preserved
loop-made-preserved g c = record {
  few = let few = c.loop-made.invariant.few in let are = c.words_of-words.ensures in let one = one_word c.in-Ok.step in omega (arith, few, are, one);
  within = λ settings transaction table is_most is_asks.
      one_more g.S.EngineSteps.sight settings transaction table c.args.most is_most c.args.steps.now c.loop-made.made c.loop-made.words c.loop-made.steps
      (c.loop-made.invariant.within settings transaction table is_most is_asks) c.in-Ok.step c.words_of-words.result c.words_of-words.ensures c.loop-made-test.true c.optimize_step.new.self
      c.in-Ok.ensures (sym c.may_go_on.ensures ∙ c.if-not-may_go_on.false);
}

pub returns : goal.returns
returns g c = λ settings transaction table is_most is_asks.
    ran_out g.S.EngineSteps.sight settings transaction table c.args.most is_most c.args.steps.now c.loop-made.made c.loop-made.words c.loop-made.steps
    (c.loop-made.invariant.within settings transaction table is_most is_asks) (let ended = c.loop-made-test.false in omega (arith, ended))
