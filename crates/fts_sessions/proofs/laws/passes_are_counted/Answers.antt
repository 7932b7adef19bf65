use Rattle.fts_sessions.proofs.Bounded.{counted}
use Rattle.fts_sessions.proofs.laws.passes_are_counted.Goals as goal

pub returns : goal.returns
returns c = counted
