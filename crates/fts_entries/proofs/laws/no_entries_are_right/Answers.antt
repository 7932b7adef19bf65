use Rattle.fts_entries.proofs.Commits.{commits_exact, none_fits}
use Rattle.fts_entries.proofs.laws.no_entries_are_right.Goals as goal

pub returns-clause-exact : goal.returns-clause-exact
returns-clause-exact c = commits_exact

pub returns-clause-fits : goal.returns-clause-fits
returns-clause-fits c = none_fits
