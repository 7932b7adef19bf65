use Rattle.std.proofs.Common.{take}
use Rattle.std.specs.List.{flat_map}
use Rattle.fts_rowcodec.specs.Payload.{column_payload}
use Rattle.fts_codec.specs.Writing.{Puts}
use Rattle.fts_rowcodec.proofs.writing.put_columns.Given as goal

abbrev pub invariant-loop-place : goal.invariant-loop-place
invariant-loop-place l = Puts (flat_map column_payload (take l.place l.names)) l.fn.buf l.buf l.at
