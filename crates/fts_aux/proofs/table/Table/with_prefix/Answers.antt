use Rattle.std.proofs.Common.{map, ap, subst, ◌∙◌}
use Rattle.fts_aux.specs.Words.{IsListing}
use Rattle.fts_aux.specs.Table.{Entries, nodes_in}
use Rattle.std.proofs.lemmas.Result.{IfOk-weaker}
use Rattle.fts_aux.proofs.Seen.{listing_seen}
use Rattle.fts_ilist.proofs.Fronts.{is_from}
use Rattle.std.proofs.Common.{filter}
use Rattle.fts_aux.proofs.table.Table.with_prefix.Goals as goal

pub returns : goal.returns
returns c =
    IfOk-weaker c.filled_with_prefix.result _ _
    (λ found is. subst (λ (t : Entries). IsListing (nodes_in t) c.args.prefix.now (map (λ p. (p.0.now, p.1)) found.items)) c.self.view_is (listing_seen c.self.inside.words.entries c.self.inside.order c.args.prefix.now c.range-rest.result (map (λ p. (p.0.now, p.1)) found.items) c.self.invariant.listed c.range-rest.ensures.ordered
    (c.range-rest.ensures.between tt ∙ ap (λ p. filter (is_from p) c.self.inside.order.keys) c.in_ok-first.ensures) is))
    c.filled_with_prefix.ensures
