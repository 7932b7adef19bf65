use Rattle.fts_top.proofs.OneText as one
use Rattle.fts_top.proofs.laws.one_text.Goals as goal

pub returns : goal.returns
returns c = one.one_text
