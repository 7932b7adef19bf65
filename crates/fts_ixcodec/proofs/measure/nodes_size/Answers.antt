use Rattle.fts_ixcodec.proofs.Walks.{nodes_too_long}
use Rattle.fts_ixcodec.proofs.measure.nodes_size.Goals as goal

pub returns-in-None-clause-none : goal.returns-in-None-clause-none
returns-in-None-clause-none c =
    let so_far = c.loop-node.invariant in
    nodes_too_long c.args.group.now.0 c.args.group.now.1 c.nodes-node-items.result.now c.loop-node.node-index c.node-item.result _ c.bytes.result.now c.args.start c.loop-node.size _
    so_far.items c.loop-node-test.true c.node-item.is c.bytes.ensures.spelled so_far.beside so_far.sum c.in-None.ensures.none
