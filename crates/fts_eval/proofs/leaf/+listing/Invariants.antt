use Rattle.std.proofs.Common.{◌≡◌, ◌++◌}
use Rattle.fts_types.specs.Rules.{rules_of}
use Rattle.fts_query.specs.Seen.{leaves_seen}
use Rattle.fts_eval.proofs.Listing.{leaves_from}
use Rattle.fts_eval.proofs.leaf.+listing.Given as goal

abbrev pub invariant-add_terms-loop-term : goal.invariant-add_terms-loop-term
invariant-add_terms-loop-term l = leaves_seen l.leaves.items ++ leaves_from (rules_of l.settings) l.terms l.term-index ≡ leaves_seen l.initial.leaves.items ++ leaves_from (rules_of l.settings) l.terms 0
