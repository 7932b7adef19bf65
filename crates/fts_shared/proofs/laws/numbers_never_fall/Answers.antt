use Rattle.fts_shared.proofs.Standing.{talk_rises}
use Rattle.fts_shared.proofs.laws.numbers_never_fall.Goals as goal

pub returns : goal.returns
returns c = talk_rises
