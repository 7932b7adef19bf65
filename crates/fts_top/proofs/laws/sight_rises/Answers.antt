use Rattle.fts_top.proofs.Rising.{all_rise, own_rise}
use Rattle.fts_top.proofs.laws.sight_rises.Goals as goal

pub returns-clause-all : goal.returns-clause-all
returns-clause-all c = all_rise

pub returns-clause-own : goal.returns-clause-own
returns-clause-own c = own_rise
