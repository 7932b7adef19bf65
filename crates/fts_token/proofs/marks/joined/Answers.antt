use Rattle.fts_token.proofs.Bits.{joined_bits}
use Rattle.fts_token.proofs.marks.joined.Goals as goal

pub returns : goal.returns
returns c j less = joined_bits c.args.words c.args.apostrophes c.args.before c.args.behind c.from.result c.from-2.result c.from.ensures c.from-2.ensures c.ranges.words.fits j less
