use Rattle.std.proofs.Common.{◌≤◌, ◌-◌, length}
use Rattle.fts_phrase.specs.Words.{StandsAtNone}
use Rattle.fts_phrase.proofs.seek.word_place.Given as goal

abbrev pub invariant-loop-place : goal.invariant-loop-place
invariant-loop-place l = record {
  order : l.at ≤ l.from;
  within : l.from ≤ length l.text;
  none : StandsAtNone l.text l.word l.at l.from;
}

abbrev pub decreases-loop-place : goal.decreases-loop-place
decreases-loop-place l = length l.text - l.from
