use Rattle.std.proofs.Common.{◌≡◌, length, take}
use Rattle.std.specs.List.{flat_map}
use Rattle.fts_rowcodec.specs.Payload.{new_payload}
use Rattle.fts_rowcodec.proofs.measure.new_texts_size.Given as goal

abbrev pub invariant-loop-place : goal.invariant-loop-place
invariant-loop-place l = l.size ≡ length (flat_map new_payload (take l.place l.texts))
