use Rattle.std.proofs.Common.{◌-◌, length}
use Rattle.fts_phrase.proofs.Places.{IsSeekingFrom}
use Rattle.fts_phrase.proofs.phrase.text_has_phrase.Given as goal

abbrev pub invariant-loop-place : goal.invariant-loop-place
invariant-loop-place l = IsSeekingFrom l.text l.words l.at

abbrev pub decreases-loop-place : goal.decreases-loop-place
decreases-loop-place l = length l.text - l.at
