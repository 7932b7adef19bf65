use Rattle.std.proofs.Common.{◌≡◌, drop}
use Rattle.fts_lists.specs.Ids.{without}
use Rattle.fts_lists.proofs.ids.IdSet.remove_all.Given as goal

abbrev pub invariant-loop-id : goal.invariant-loop-id
invariant-loop-id l = (without (drop l.id-index l.ids) l.self.ids ≡ without l.ids l.initial.self.ids) × (l.self.room ≡ l.initial.self.room)
