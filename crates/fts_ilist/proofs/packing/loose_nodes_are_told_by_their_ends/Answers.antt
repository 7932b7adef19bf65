use Rattle.fts_ilist.proofs.Loose.{loose_told, told_loose}
use Rattle.fts_ilist.proofs.packing.loose_nodes_are_told_by_their_ends.Goals as goal

pub returns : goal.returns
returns c = λ nodes. (loose_told nodes, told_loose nodes)
