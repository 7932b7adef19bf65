use Rattle.fts_sessions.proofs.Bounded.{bounded}
use Rattle.fts_sessions.proofs.laws.passes_are_bounded.Goals as goal

pub returns : goal.returns
returns c = bounded
