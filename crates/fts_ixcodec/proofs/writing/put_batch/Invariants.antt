use Rattle.std.proofs.Common.{take}
use Rattle.std.specs.List.{flat_map}
use Rattle.fts_codec.specs.Writing.{Puts}
use Rattle.fts_ixcodec.specs.Payload.{nodes_payload}
use Rattle.fts_ixcodec.proofs.writing.put_batch.Given as goal

abbrev pub invariant-loop-group : goal.invariant-loop-group
invariant-loop-group l = Puts (flat_map nodes_payload (take l.group-index l.nodes)) l.fn.buf l.buf l.at
