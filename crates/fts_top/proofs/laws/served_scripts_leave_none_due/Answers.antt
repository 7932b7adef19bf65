use Rattle.fts_top.proofs.Settling.{leaves_none_due, stays_going}
use Rattle.fts_top.proofs.laws.served_scripts_leave_none_due.Goals as goal

pub returns-clause-due : goal.returns-clause-due
returns-clause-due g c first before after was = leaves_none_due _ _ first before after was

pub returns-clause-going : goal.returns-clause-going
returns-clause-going g c first before after was = stays_going _ _ first before after was
