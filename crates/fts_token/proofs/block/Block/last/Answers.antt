use Rattle.fts_token.proofs.Blocks.{last_place}
use Rattle.fts_token.proofs.block.Block.last.Goals as goal

pub returns : goal.returns
returns c = last_place c.args.text.now
