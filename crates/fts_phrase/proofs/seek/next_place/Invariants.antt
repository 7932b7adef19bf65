use Rattle.std.proofs.Common.{◌≤◌, ◌-◌, length}
use Rattle.fts_phrase.specs.Words.{StandsAtNone}
use Rattle.fts_phrase.proofs.seek.next_place.Given as goal

abbrev pub invariant-loop-from : goal.invariant-loop-from
invariant-loop-from l = record {
  order : l.at ≤ l.from;
  within : l.from ≤ length l.text;
  none : StandsAtNone l.text l.word l.at l.from;
}

abbrev pub decreases-loop-from : goal.decreases-loop-from
decreases-loop-from l = length l.text - l.from
