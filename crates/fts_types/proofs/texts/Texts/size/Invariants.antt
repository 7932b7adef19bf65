use Rattle.std.proofs.Common.{◌≡◌, length, take}
use Rattle.std.specs.Prelude.{sum_by}
use Rattle.fts_types.proofs.texts.Texts.size.Given as goal

abbrev pub invariant-loop-place : goal.invariant-loop-place
invariant-loop-place l = l.size ≡ sum_by length (take l.place l.self)
