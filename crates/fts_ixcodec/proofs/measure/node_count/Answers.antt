use Rattle.std.proofs.Common.{arith}
use Rattle.fts_ixcodec.proofs.Walks.{counted_within, counted_on, front_count}
use Rattle.fts_ixcodec.proofs.measure.node_count.Goals as goal

pub overflow_add-count : goal.overflow_add-count
overflow_add-count c =
    omega (arith, c.requires, c.loop-group.invariant, counted_within c.args.nodes.now c.loop-group.group-index _ c.group-item.result c.nodes.result.now c.loop-group-test.true c.group-item.is c.nodes.ensures)

pub loop-group-preserved : goal.loop-group-preserved
loop-group-preserved c =
    omega (arith, c.loop-group.invariant, counted_on c.args.nodes.now c.loop-group.group-index _ c.group-item.result c.nodes.result.now c.loop-group-test.true c.group-item.is c.nodes.ensures)

pub overflow_cast-result : goal.overflow_cast-result
overflow_cast-result c = omega (arith, c.requires, c.loop-group.invariant, front_count c.args.nodes.now c.loop-group.group-index)
