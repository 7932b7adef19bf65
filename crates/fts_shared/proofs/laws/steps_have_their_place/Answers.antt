use Rattle.fts_shared.proofs.Standing.{has_its_place}
use Rattle.fts_shared.proofs.laws.steps_have_their_place.Goals as goal

pub returns : goal.returns
returns c = has_its_place
