use Rattle.fts_entries.proofs.Dead.{deleted_died, being_died, dead_gone, left_deleted}
use Rattle.fts_entries.proofs.laws.deleted_are_dead.Goals as goal

pub returns-clause-died : goal.returns-clause-died
returns-clause-died c = deleted_died

pub returns-clause-being : goal.returns-clause-being
returns-clause-being c = being_died

pub returns-clause-gone : goal.returns-clause-gone
returns-clause-gone c = dead_gone

pub returns-clause-deleted : goal.returns-clause-deleted
returns-clause-deleted c = left_deleted
