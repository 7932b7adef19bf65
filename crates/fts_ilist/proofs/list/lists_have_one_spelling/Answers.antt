use Rattle.fts_ilist.proofs.Lists.{one_spelling}
use Rattle.fts_ilist.proofs.list.lists_have_one_spelling.Goals as goal

pub returns : goal.returns
returns c = one_spelling
