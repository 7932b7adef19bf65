use Rattle.fts_entries.proofs.Stepping.{one_step, no_step}
use Rattle.fts_entries.proofs.laws.one_step_is_next.Goals as goal

pub returns-clause-one : goal.returns-clause-one
returns-clause-one c = one_step

pub returns-clause-none : goal.returns-clause-none
returns-clause-none c = no_step
