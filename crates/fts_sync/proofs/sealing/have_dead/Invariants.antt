use Rattle.std.proofs.Common.{◌≡◌, drop}
use Rattle.fts_ilist.specs.Packing.{joined}
use Rattle.fts_lists.specs.State.{ids_of}
use Rattle.fts_lists.specs.declared.lists.DeleteList.TheVariants.{DeletedCache}
use Rattle.fts_sync.specs.Leaving.{some_dead}
use Rattle.fts_sync.proofs.sealing.have_dead.Given as goal

abbrev pub invariant-loop-node : goal.invariant-loop-node
invariant-loop-node l = some_dead (ids_of DeletedCache l.lists) (joined (drop l.node-index l.nodes)) ≡ some_dead (ids_of DeletedCache l.lists) (joined l.nodes)
