use Rattle.std.proofs.Common.{◌≡◌, take}
use Rattle.std.specs.List.{flat_map}
use Rattle.fts_codec.specs.Writing.{Puts}
use Rattle.fts_ixcodec.specs.Payload.{node_payload}
use Rattle.fts_ixcodec.proofs.writing.put_nodes.Given as goal

abbrev pub invariant-loop-node : goal.invariant-loop-node
invariant-loop-node l = record {
  items : l.node-items ≡ l.fn.group.1;
  word : l.word ≡ l.fn.group.0;
  put : Puts (flat_map (node_payload l.fn.group.0) (take l.node-index l.fn.group.1)) l.fn.buf l.buf l.at;
}
