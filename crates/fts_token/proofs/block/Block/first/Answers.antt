use Rattle.std.proofs.Common.{refl}
use Rattle.fts_token.specs.Bounds.{is_inside}
use Rattle.fts_token.proofs.Blocks.{first_places}
use Rattle.fts_token.proofs.block.Block.first.Goals as goal

pub bounds_at-requires-clause-inside : goal.bounds_at-requires-clause-inside
unfolding is_inside
bounds_at-requires-clause-inside c = refl

pub returns : goal.returns
returns c = first_places c.args.text.now c.bounds_at.result c.bounds_at.ensures
