use Rattle.fts_workers.proofs.Ending.{ends_whole}
use Rattle.fts_workers.proofs.laws.rounds_end_whole.Goals as goal

pub returns : goal.returns
returns c settings limits running calls reply = ends_whole settings limits running calls reply
