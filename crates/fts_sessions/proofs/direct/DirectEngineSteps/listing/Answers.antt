use Rattle.fts_sessions.proofs.Directly.{as_direct}
use Rattle.fts_sessions.proofs.direct.DirectEngineSteps.listing.Goals as goal

pub returns : goal.returns
returns g c = as_direct _ _ _ _ c.listing.ensures.steps
