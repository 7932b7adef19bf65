use Rattle.fts_shared.proofs.Settling.{last_none_due}
use Rattle.fts_shared.proofs.laws.last_rounds_leave_none_due.Goals as goal

pub returns : goal.returns
returns g c = last_none_due
