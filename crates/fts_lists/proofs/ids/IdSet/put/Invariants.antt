use Rattle.std.proofs.Common.{◌≡◌, ◌+◌, take}
use Rattle.fts_lists.specs.Ids.{with_ids}
use Rattle.fts_lists.proofs.ids.IdSet.put.Given as goal

abbrev pub invariant-loop-id : goal.invariant-loop-id
invariant-loop-id l = (l.self.ids ≡ with_ids l.initial.self.ids (take l.id-index l.ids)) × (l.self.room + l.id-index ≡ l.initial.self.room)
