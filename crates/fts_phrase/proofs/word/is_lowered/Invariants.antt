use Rattle.fts_phrase.proofs.Given.{AreAlike}
use Rattle.fts_phrase.proofs.word.is_lowered.Given as goal

abbrev pub invariant-loop-place : goal.invariant-loop-place
invariant-loop-place l = AreAlike l.found l.word l.place
