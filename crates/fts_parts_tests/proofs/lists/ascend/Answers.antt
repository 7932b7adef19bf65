use Rattle.std.proofs.Common.{arith}
use Rattle.fts_lists.proofs.Passing.{ascend_from_increasing}
use Rattle.fts_parts_tests.proofs.lists.ascend.Goals as goal

pub returns : goal.returns
returns c rises = ascend_from_increasing 0 c.args.ids.now (λ k lt. c.loop-at.invariant k (omega (arith, lt, c.loop-at-test.false))) (λ d lt. omega arith)
