use Rattle.fts_ilist.proofs.Codec.{one_number}
use Rattle.fts_ilist.proofs.number.numbers_have_one_spelling.Goals as goal

pub returns : goal.returns
returns c = one_number
