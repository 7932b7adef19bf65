use Rattle.std.proofs.Common.{◌≡◌, ◌++◌, map}
use Rattle.fts_aux.specs.Words.{filled}
use Rattle.fts_aux.specs.Table.{seen}
use Rattle.fts_ilist.specs.Front.{front}
use Rattle.fts_aux.proofs.table.filled_with_prefix.Given as goal

abbrev pub invariant-loop-word : goal.invariant-loop-word
invariant-loop-word l =
    (goal.iterator-loop-word).can_next l.rest × (goal.iterator-loop-word).is_finite l.rest
    × (map (λ p. (p.0.now, p.1)) l.found.items ++ filled (front (λ e. e.0) l.prefix (seen l.words.entries l.rest)) ≡ filled (front (λ e. e.0) l.prefix (seen l.words.entries l.initial.rest)))
