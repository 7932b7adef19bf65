use Rattle.fts_shared.proofs.Standing.{has_its_number}
use Rattle.fts_shared.proofs.laws.commits_have_their_places.Goals as goal

pub returns : goal.returns
returns c = has_its_number
