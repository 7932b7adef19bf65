use Rattle.fts_ilist.proofs.Codec.{TakesGroups}
use Rattle.fts_ilist.proofs.number.any_number.Given as goal

abbrev pub invariant-loop-i : goal.invariant-loop-i
invariant-loop-i l = TakesGroups l.bytes l.i l.value
