use Rattle.std.proofs.Common.{◌∷◌, ◌++◌, length, take}
use Rattle.std.specs.List.{flat_map}
use Rattle.std.specs.Int.{w16, to_be_bytes}
use Rattle.fts_rowcodec.specs.Payload.{change_payload}
use Rattle.fts_codec.specs.Writing.{Puts}
use Rattle.fts_rowcodec.proofs.encode.encode_commit_into.Given as goal

abbrev pub invariant-loop-change : goal.invariant-loop-change
invariant-loop-change l = Puts ((1 ∷ to_be_bytes w16 (length l.changes)) ++ flat_map change_payload (take l.change-index l.changes)) l.fn.buf l.buf l.at
