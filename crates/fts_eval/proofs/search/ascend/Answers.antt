use Rattle.std.proofs.Common.{arith}
use Rattle.fts_eval.specs.Says.{docs_of}
use Rattle.fts_eval.proofs.Answering.{ascend_from_increasing, docs_long, falling, rising}
use Rattle.fts_eval.proofs.search.ascend.Goals as goal

pub returns-then-rows-place-clause-no : goal.returns-then-rows-place-clause-no
returns-then-rows-place-clause-no c =
    λ e up. falling c.args.rows.now c.loop-place.place c.index-rows-place.result c.index-rows-place-in-loop-place.result (omega arith) (omega arith) c.if-rows-place.true up

pub loop-place-preserved : goal.loop-place-preserved
loop-place-preserved c =
    rising c.args.rows.now c.loop-place.place c.index-rows-place.result c.index-rows-place-in-loop-place.result (omega arith) (omega arith) c.if-rows-place.false c.loop-place.invariant

pub returns-clause-yes : goal.returns-clause-yes
returns-clause-yes c =
    λ e. ascend_from_increasing 0 (docs_of c.args.rows.now) (λ k lt. c.loop-place.invariant k (omega (arith, lt, docs_long c.args.rows.now))) (λ lt. omega arith)
