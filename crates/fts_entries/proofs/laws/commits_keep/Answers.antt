use Rattle.fts_entries.proofs.Commits.{one_exact, one_fits, same_index}
use Rattle.fts_entries.proofs.laws.commits_keep.Goals as goal

pub returns-clause-exact : goal.returns-clause-exact
returns-clause-exact c = λ rules rows turns turn s are fits exact. one_exact turns turn s fits are rules rows exact

pub returns-clause-fits : goal.returns-clause-fits
returns-clause-fits c = one_fits

pub returns-clause-same : goal.returns-clause-same
returns-clause-same c = same_index
