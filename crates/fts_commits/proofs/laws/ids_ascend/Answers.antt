use Rattle.fts_commits.proofs.Ascending.{picked_ids_ascend}
use Rattle.fts_commits.proofs.laws.ids_ascend.Goals as goal

pub returns : goal.returns
returns c = picked_ids_ascend
