use Rattle.std.proofs.Common.{not}
use Rattle.std.proofs.lemmas.List.Filters.{FiltersInPlace}
use Rattle.fts_ids.specs.Ids.{has}
use Rattle.fts_ids.proofs.Passing.{Tells}
use Rattle.fts_lists.proofs.marked.MarkedIds.take_from.Given as goal

abbrev pub invariant-loop-at : goal.invariant-loop-at
invariant-loop-at l = record {
  filters : FiltersInPlace (λ id. not (has l.self.ids id)) l.initial.ids.items l.ids.items l.kept l.at;
  walks : Tells l.walk l.self.ids l.initial.ids.items l.at;
}
