use Rattle.fts_shared.proofs.Counted.{fault_counted}
use Rattle.fts_shared.proofs.laws.faults_are_counted.Goals as goal

pub returns : goal.returns
returns g c = fault_counted
