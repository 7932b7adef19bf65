use Rattle.std.proofs.Common.{◌≡◌, drop}
use Rattle.fts_types.specs.Rules.{rules_of}
use Rattle.fts_query.specs.View.{terms_view}
use Rattle.fts_meaning.specs.Holds.{some_stays}
use Rattle.fts_plain.proofs.terms.+staying.Given as goal

abbrev pub invariant-some_stays-loop-term : goal.invariant-some_stays-loop-term
invariant-some_stays-loop-term l = some_stays (rules_of l.settings) (terms_view (drop l.term-index l.terms)) ≡ some_stays (rules_of l.settings) (terms_view l.terms)
