use Rattle.std.proofs.Common.{◌≡◌, ◌+◌, length, take}
use Rattle.std.specs.List.{flat_map}
use Rattle.fts_ixcodec.specs.Measure.{IsSum}
use Rattle.fts_ixcodec.specs.Payload.{node_payload}
use Rattle.fts_ixcodec.proofs.measure.nodes_size.Given as goal

abbrev pub invariant-loop-node : goal.invariant-loop-node
invariant-loop-node l = record {
  items : l.node-items ≡ l.fn.group.1;
  beside : l.beside ≡ 5 + length l.fn.group.0;
  sum : IsSum l.fn.start (flat_map (node_payload l.fn.group.0) (take l.node-index l.fn.group.1)) l.size;
}
