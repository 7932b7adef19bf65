use Rattle.std.proofs.Common.{take}
use Rattle.fts_query.specs.Seen.{leaves_seen}
use Rattle.fts_index.specs.Gathered.{doc_has, AreTold}
use Rattle.fts_index.proofs.gather.told.Given as goal

abbrev pub invariant-loop-leaf : goal.invariant-loop-leaf
invariant-loop-leaf l = AreTold (doc_has l.index) (leaves_seen (take l.leaf-index l.leaves)) l.lists.items
