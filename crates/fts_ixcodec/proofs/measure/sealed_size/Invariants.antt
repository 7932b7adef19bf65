use Rattle.fts_ixcodec.proofs.Walks.{AreSized}
use Rattle.fts_ixcodec.proofs.measure.sealed_size.Given as goal

abbrev pub invariant-loop-group : goal.invariant-loop-group
invariant-loop-group l = AreSized l.nodes l.group-index l.size
