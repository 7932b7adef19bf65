use Rattle.std.proofs.Common.{◌≡◌, take}
use Rattle.fts_ixcodec.specs.Payload.{node_count}
use Rattle.fts_ixcodec.proofs.measure.node_count.Given as goal

abbrev pub invariant-loop-group : goal.invariant-loop-group
invariant-loop-group l = l.count ≡ node_count (take l.group-index l.nodes)
