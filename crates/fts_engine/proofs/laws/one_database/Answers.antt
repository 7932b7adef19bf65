use Rattle.fts_engine.proofs.Single as single
use Rattle.fts_engine.proofs.laws.one_database.Goals as goal

pub returns : goal.returns
returns c = single.one_database
