use Rattle.std.proofs.Common.{sym, ◌∙◌, arith}
use Rattle.fts_token.proofs.Blocks.{inside_next, next_block}
use Rattle.fts_token.proofs.block.with_bound.Goals as goal

pub bounds_at-requires-clause-inside : goal.bounds_at-requires-clause-inside
bounds_at-requires-clause-inside c =
    let block = c.loop-block.block in
    c.requires.inside ∙ sym (inside_next c.args.text.now c.args.at block.start block.bounds c.loop-block.invariant.ahead c.loop-block-test.true)

pub loop-block-preserved : goal.loop-block-preserved
loop-block-preserved c =
    let block = c.loop-block.block in
    record { ahead = next_block c.args.text.now c.args.at block.start block.bounds c.loop-block.invariant.ahead c.loop-block-test.true (omega (arith, c.if-text-block-ge-PLACES.true)) c.bounds_at.result c.bounds_at.ensures }
