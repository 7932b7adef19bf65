use Rattle.fts_token.proofs.Bits.{changed}
use Rattle.fts_token.proofs.marks.changes.Goals as goal

pub returns : goal.returns
returns c j less = changed c.args.marks c.args.before c.from.result c.from.ensures j less
