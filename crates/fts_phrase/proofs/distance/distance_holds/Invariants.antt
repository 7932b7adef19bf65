use Rattle.std.proofs.Common.{◌≡◌, length, false, take}
use Rattle.std.specs.List.{list_any}
use Rattle.fts_meaning.specs.Holds.{are_near_in}
use Rattle.fts_phrase.proofs.distance.distance_holds.Given as goal

abbrev pub invariant-loop-column : goal.invariant-loop-column
invariant-loop-column l = record {
  none : list_any (are_near_in l.words l.reach) (take l.column l.columns) ≡ false;
  long : length l.last ≡ length l.words;
}
