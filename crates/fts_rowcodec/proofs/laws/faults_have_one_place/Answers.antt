use Rattle.fts_rowcodec.proofs.One.{one_commit_fault, one_settings_fault}
use Rattle.fts_rowcodec.proofs.laws.faults_have_one_place.Goals as goal

pub returns-clause-commits : goal.returns-clause-commits
returns-clause-commits c columns bytes a b x y = one_commit_fault columns bytes a b x y

pub returns-clause-settings : goal.returns-clause-settings
returns-clause-settings c bytes a b x y = one_settings_fault bytes a b x y
