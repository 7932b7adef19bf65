use Rattle.fts_log.proofs.Unique as unique
use Rattle.fts_log.proofs.laws.not_damaged.Goals as goal

pub returns : goal.returns
returns c = unique.not_damaged
