use Rattle.fts_shared.proofs.Unstopped.{nothing_stops}
use Rattle.fts_shared.proofs.laws.calm_scripts_stop_nothing.Goals as goal

pub returns : goal.returns
returns g c = nothing_stops
