use Rattle.fts_words.specs.Byte.{lowered}
use Rattle.fts_words.specs.RawWords.{bytes_of}
use Rattle.fts_phrase.proofs.Noting.{IsNoting}
use Rattle.fts_phrase.proofs.distance.note.Given as goal

abbrev pub invariant-loop-place : goal.invariant-loop-place
invariant-loop-place l = IsNoting (lowered (bytes_of l.text l.found)) l.words l.number l.initial.last l.last l.met l.place
