use Rattle.fts_commits.proofs.Turns.{turns_are}
use Rattle.fts_commits.proofs.Leads.{turns_lead, no_second_death}
use Rattle.fts_commits.proofs.laws.are_turns.Goals as goal

pub returns-clause-ascend : goal.returns-clause-ascend
returns-clause-ascend c = turns_are

pub returns-clause-rows : goal.returns-clause-rows
returns-clause-rows c = turns_lead

pub returns-clause-once : goal.returns-clause-once
returns-clause-once c = no_second_death
