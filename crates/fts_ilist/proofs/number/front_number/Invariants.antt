use Rattle.std.proofs.Common.{◌-◌, length}
use Rattle.fts_ilist.proofs.Codec.{TakesGroups}
use Rattle.fts_ilist.proofs.number.front_number.Given as goal

abbrev pub invariant-loop-at : goal.invariant-loop-at
invariant-loop-at l = TakesGroups l.bytes l.at l.value

abbrev pub decreases-loop-at : goal.decreases-loop-at
decreases-loop-at l = length l.bytes - l.at
