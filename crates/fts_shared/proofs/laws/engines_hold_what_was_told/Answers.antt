use Rattle.fts_shared.proofs.Serving.{all_held}
use Rattle.fts_shared.proofs.laws.engines_hold_what_was_told.Goals as goal

pub returns : goal.returns
returns g c = all_held
