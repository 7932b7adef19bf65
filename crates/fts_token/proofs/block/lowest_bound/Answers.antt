use Rattle.std.proofs.Common.{arith}
use Rattle.fts_token.proofs.Blocks.{taken}
use Rattle.fts_token.proofs.block.lowest_bound.Goals as goal

pub returns : goal.returns
returns c =
    let block = c.args.block in
    taken c.args.text.now c.args.at block.start block.bounds c.requires.ahead c.requires.some (omega arith)
