use Rattle.std.proofs.Common.{take}
use Rattle.fts_ids.specs.Marks.{some_has, AreUpTo}
use Rattle.fts_ids.proofs.marks.largest.Given as goal

abbrev pub invariant-loop-list : goal.invariant-loop-list
invariant-loop-list l = AreUpTo l.largest (some_has (take l.list-index l.lists))
