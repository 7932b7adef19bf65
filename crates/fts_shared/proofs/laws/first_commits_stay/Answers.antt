use Rattle.fts_shared.proofs.Standing.{more_commits}
use Rattle.fts_shared.proofs.laws.first_commits_stay.Goals as goal

pub returns : goal.returns
returns c = more_commits
