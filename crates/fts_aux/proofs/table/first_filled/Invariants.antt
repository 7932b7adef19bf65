use Rattle.std.proofs.Common.{◌≡◌}
use Rattle.fts_aux.specs.Words.{filled}
use Rattle.fts_aux.specs.Table.{seen}
use Rattle.fts_aux.proofs.table.first_filled.Given as goal

abbrev pub invariant-loop-word : goal.invariant-loop-word
invariant-loop-word l =
    (goal.iterator-loop-word).can_next l.rest × (goal.iterator-loop-word).is_finite l.rest
    × (filled (seen l.words.entries l.rest) ≡ filled (seen l.words.entries l.initial.rest))
