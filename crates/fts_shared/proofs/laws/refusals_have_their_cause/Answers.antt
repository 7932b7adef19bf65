use Rattle.fts_shared.proofs.Standing.{has_cause}
use Rattle.fts_shared.proofs.laws.refusals_have_their_cause.Goals as goal

pub returns : goal.returns
returns c = has_cause
