use Rattle.std.proofs.Common.{not}
use Rattle.std.proofs.lemmas.List.Filters.{FiltersInPlace}
use Rattle.fts_ids.specs.Ids.{has}
use Rattle.fts_lists.proofs.ids.IdSet.take_from.Given as goal

abbrev pub invariant-loop-at : goal.invariant-loop-at
invariant-loop-at l = FiltersInPlace (λ id. not (has l.self.ids id)) l.initial.ids.items l.ids.items l.kept l.at
