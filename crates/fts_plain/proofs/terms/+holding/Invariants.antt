use Rattle.std.proofs.Common.{drop}
use Rattle.fts_types.specs.Rules.{rules_of}
use Rattle.fts_query.specs.View.{terms_view}
use Rattle.fts_plain.proofs.Listing.{Continues}
use Rattle.fts_plain.proofs.terms.+holding.Given as goal

abbrev pub invariant-list_holds-loop-term : goal.invariant-list_holds-loop-term
invariant-list_holds-loop-term l = Continues (rules_of l.settings) l.columns l.verdict (terms_view (drop l.term-index l.terms)) (terms_view l.terms)
