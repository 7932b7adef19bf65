use Rattle.std.proofs.Common.{◌≡◌, filter, take}
use Rattle.fts_ids.specs.Ids.{has}
use Rattle.fts_ids.proofs.Passing.{Tells}
use Rattle.fts_ids.proofs.pairs.common_by_walk.Given as goal

abbrev pub invariant-loop-id : goal.invariant-loop-id
invariant-loop-id l = record {
  chosen : l.found.items ≡ filter (has l.others) (take l.id-index l.ids);
  walks : Tells l.walk l.others l.ids l.id-index;
}
