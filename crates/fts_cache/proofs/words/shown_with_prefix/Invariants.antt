use Rattle.std.proofs.Common.{◌≡◌, ◌++◌, map}
use Rattle.std.specs.Map.{keys_of}
use Rattle.fts_cache.specs.Words.{with_documents}
use Rattle.fts_ilist.specs.Front.{front}
use Rattle.fts_cache.proofs.words.shown_with_prefix.Given as goal

abbrev pub invariant-loop-entry : goal.invariant-loop-entry
invariant-loop-entry l =
    (goal.iterator-loop-entry).can_next l.rest × (goal.iterator-loop-entry).is_finite l.rest
    × (map (λ w. w.now) l.found.items ++ with_documents l.words (front (λ w. w) l.prefix (keys_of l.rest)) ≡ with_documents l.words (front (λ w. w) l.prefix (keys_of l.initial.rest)))
