use Rattle.std.proofs.Common.{arith}
use Rattle.fts_token.proofs.Blocks.{exhausted}
use Rattle.fts_token.proofs.block.next_bound.Goals as goal

pub returns-then-block-eq0-clause-none : goal.returns-then-block-eq0-clause-none
returns-then-block-eq0-clause-none c k low up =
    let block = c.with_bound-block in
    exhausted c.args.text.now c.args.at block.result.start block.result.bounds block.ensures.ahead c.if-block-eq0.true k low (omega (arith, block.ensures.none c.if-block-eq0.true))
