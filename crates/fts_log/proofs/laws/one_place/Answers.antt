use Rattle.fts_log.proofs.Unique as unique
use Rattle.fts_log.proofs.laws.one_place.Goals as goal

pub returns : goal.returns
returns c = unique.one_place
