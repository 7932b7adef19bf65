use Rattle.std.proofs.Common.{◌≡◌, map, take}
use Rattle.fts_words.specs.Byte.{lowered}
use Rattle.fts_index.proofs.occurrence.lowered_texts.Given as goal

abbrev pub invariant-loop-place : goal.invariant-loop-place
invariant-loop-place l = l.lower ≡ map lowered (take l.place l.texts)
