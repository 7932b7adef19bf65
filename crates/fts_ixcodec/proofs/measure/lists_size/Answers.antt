use Rattle.std.proofs.Common.{[], ap, length, arith}
use Rattle.fts_ixcodec.proofs.Walks.{summed_on, sum_too_long}
use Rattle.fts_ixcodec.proofs.measure.lists_size.Goals as goal

pub loop-node-init : goal.loop-node-init
loop-node-init c = record {
  can_next = tt;
  is_finite = tt;
  summing = record { passes = record { done = []; parts = c.into_iter-node-iterator.ensures.into_iter_gives }; sum = omega arith };
}

pub loop-node-preserved : goal.loop-node-preserved
loop-node-preserved c =
    let long = ap length c.bytes.ensures.spelled in
    record {
      can_next = tt;
      is_finite = tt;
      summing = summed_on c.args.nodes c.loop-node.node-iterator c.next.new.self c.in-Some.node c.in-Some.ensures.steps c.args.start c.loop-node.size c.loop-node.invariant.summing
          c.in-Some-add_size.sum (omega (arith, c.in-Some-add_size.ensures.some, long));
    }

pub returns-in-None-add_size-clause-none : goal.returns-in-None-add_size-clause-none
returns-in-None-add_size-clause-none c =
    let long = ap length c.bytes.ensures.spelled in
    sum_too_long c.args.nodes c.loop-node.node-iterator c.next.new.self c.in-Some.node c.in-Some.ensures.steps c.args.start c.loop-node.size c.loop-node.invariant.summing
    (omega (arith, c.in-None-add_size.ensures.none, long))
