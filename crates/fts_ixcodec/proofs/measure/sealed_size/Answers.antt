use Rattle.std.proofs.Common.{ap, length, arith}
use Rattle.fts_ixcodec.proofs.Walks.{sized_on, batch_too_long}
use Rattle.fts_ixcodec.proofs.measure.sealed_size.Goals as goal

pub returns-in-None-clause-none : goal.returns-in-None-clause-none
returns-in-None-clause-none c through synced words =
    let long = batch_too_long c.args.nodes.now c.loop-group.group-index c.loop-group.size _ c.group-item.result c.loop-group-test.true c.group-item.is c.loop-group.invariant.sum c.in-None.ensures.none in
    omega (arith, long)

pub loop-group-preserved : goal.loop-group-preserved
loop-group-preserved c =
    let same = ap length c.word.ensures in
    sized_on c.args.nodes.now c.loop-group.group-index c.loop-group.size _ c.group-item.result c.loop-group-test.true c.group-item.is c.in-Some.sum c.loop-group.invariant
    (omega (arith, same, c.if-word-gt-LONGEST.false)) c.in-Some.ensures.some
