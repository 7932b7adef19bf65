use Rattle.std.proofs.Common.{◌≡◌}
use Rattle.fts_ilist.specs.Node.{last_of}
use Rattle.fts_parts_tests.proofs.aux.checks.last_in.Given as goal

abbrev pub invariant-loop-node : goal.invariant-loop-node
invariant-loop-node l =
    (goal.iterator-loop-node).can_next l.rest × (goal.iterator-loop-node).is_finite l.rest
    × (last_of l.last l.rest ≡ last_of l.fn.before l.initial.rest)
