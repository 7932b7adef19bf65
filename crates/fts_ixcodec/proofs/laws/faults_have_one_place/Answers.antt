use Rattle.fts_ixcodec.proofs.One.{one_entry_fault}
use Rattle.fts_ixcodec.proofs.laws.faults_have_one_place.Goals as goal

pub returns : goal.returns
returns c = record { entries = λ rules bytes a b x y. one_entry_fault rules bytes a b x y }
