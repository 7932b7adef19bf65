use Rattle.fts_sessions.proofs.Directly.{as_direct}
use Rattle.fts_sessions.proofs.direct.DirectEngineSteps.view.Goals as goal

pub returns-clause-steps : goal.returns-clause-steps
returns-clause-steps g c = as_direct _ _ _ _ c.view.ensures.steps
