use Rattle.fts_phrase.specs.Words.{StandsAtNone}
use Rattle.fts_phrase.proofs.seek.next_at_end.Given as goal

abbrev pub invariant-loop-place : goal.invariant-loop-place
invariant-loop-place l = StandsAtNone l.text l.word l.at l.place
