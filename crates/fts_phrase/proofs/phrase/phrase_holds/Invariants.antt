use Rattle.std.proofs.Common.{◌≡◌, false, take}
use Rattle.std.specs.List.{list_any}
use Rattle.fts_meaning.specs.Holds.{stands_in}
use Rattle.fts_phrase.proofs.phrase.phrase_holds.Given as goal

abbrev pub invariant-loop-column : goal.invariant-loop-column
invariant-loop-column l = list_any (stands_in l.words) (take l.column l.columns) ≡ false
