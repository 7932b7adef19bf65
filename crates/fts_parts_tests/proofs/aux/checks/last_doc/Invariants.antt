use Rattle.std.proofs.Common.{◌≡◌}
use Rattle.fts_ilist.specs.Spelling.{id_at_end, last_id}
use Rattle.fts_parts_tests.proofs.aux.checks.last_doc.Given as goal

abbrev pub invariant-loop-document : goal.invariant-loop-document
invariant-loop-document l =
    (goal.iterator-loop-document).can_next l.rest × (goal.iterator-loop-document).is_finite l.rest
    × (id_at_end l.last l.rest ≡ last_id l.fn.node)
