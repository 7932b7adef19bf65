use Rattle.std.proofs.Common.{◌≡◌, ◌++◌}
use Rattle.std.specs.List.{All}
use Rattle.std.specs.Map.{keys_of}
use Rattle.fts_cache.specs.Words.{leaving_listed, sealed_all, IsSealed}
use Rattle.fts_cache.proofs.words.all_listed.Given as goal

abbrev pub invariant-loop-word : goal.invariant-loop-word
invariant-loop-word l =
    (goal.iterator-loop-word).can_next l.rest × (goal.iterator-loop-word).is_finite l.rest
    × (keys_of (l.nodes.items ++ sealed_all l.doc l.lent.items) ++ leaving_listed l.slots.slots l.doc l.rest ≡ leaving_listed l.slots.slots l.doc l.initial.rest)
    × All (λ e. IsSealed l.slots.slots l.doc e.0 e.1) (l.nodes.items ++ sealed_all l.doc l.lent.items)
