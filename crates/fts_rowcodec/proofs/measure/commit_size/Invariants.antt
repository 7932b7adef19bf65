use Rattle.std.proofs.Common.{◌≡◌, ◌+◌, length, take}
use Rattle.std.specs.List.{flat_map}
use Rattle.fts_rowcodec.specs.Payload.{change_payload}
use Rattle.fts_rowcodec.proofs.measure.commit_size.Given as goal

abbrev pub invariant-loop-change : goal.invariant-loop-change
invariant-loop-change l = l.size ≡ 3 + length (flat_map change_payload (take l.change-index l.changes))
