use Rattle.fts_log.proofs.Unique as unique
use Rattle.fts_log.proofs.laws.one_list.Goals as goal

pub returns : goal.returns
returns c = unique.one_list
