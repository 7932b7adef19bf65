use Rattle.std.proofs.Common.{◌++◌, arith}
use Rattle.fts_ids.proofs.Uniting.{uniting_more, united_left, united_right, ascends_so}
use Rattle.fts_ids.proofs.unions.union.Goals as goal

pub returns-in_default-right-clause-ascend : goal.returns-in_default-right-clause-ascend
returns-in_default-right-clause-ascend c =
    let l = c.loop-left in
    ascends_so (λ v. v.items) (l.all.items ++ l.left.now) c.extended.result (united_left c.args.a.now c.args.b.now l.all.items l.left.now l.right.now l.invariant (omega arith)) c.extended.ensures

pub returns-clause-ascend : goal.returns-clause-ascend
returns-clause-ascend c =
    let l = c.loop-left in
    ascends_so (λ v. v.items) (l.all.items ++ l.right.now) c.extended-2.result (united_right c.args.a.now c.args.b.now l.all.items l.left.now l.right.now l.invariant (omega arith)) c.extended-2.ensures

pub loop-left-preserved : goal.loop-left-preserved
loop-left-preserved c =
    let l = c.loop-left in
    rw c.in_ok-push.ensures.items
    (uniting_more c.args.a.now c.args.b.now l.all.items l.left.now l.right.now c.min-id.result c.behind-left.result.now c.behind-right.result.now c.in-len1-up.len_at_least c.in-len1-up-right.len_at_least c.min-id.ensures c.behind-left.ensures.ascend c.behind-right.ensures.ascend c.behind-left.ensures.same c.behind-right.ensures.same l.invariant)
