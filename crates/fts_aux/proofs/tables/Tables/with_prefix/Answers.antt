use Rattle.std.proofs.Common.{map, get_or, sym, ◌∙◌}
use Rattle.std.proofs.lemmas.Result.{IfOk-weaker}
use Rattle.fts_aux.specs.Table.{nodes_in}
use Rattle.fts_aux.specs.Tables.{nodes}
use Rattle.fts_aux.proofs.Places.{own_nodes}
use Rattle.fts_aux.proofs.Nexts.{begins_table, listing_over}
use Rattle.fts_aux.proofs.tables.Tables.with_prefix.Goals as goal

pub returns : goal.returns
returns c =
    let d = c.index-self-place_of_bytes.result in
    IfOk-weaker c.with_prefix.result _ _
    (λ found is. listing_over c.args.prefix.now (map (λ p. (p.0.now, p.1)) found.items) (nodes_in (get_or c.self.inside.tables c.place_of_bytes.result d)) (nodes c.args.self.now)
    (λ q passes. own_nodes c.self.inside.tables c.args.self.now c.self.view_is c.self.invariant c.place_of_bytes.result c.place_of_bytes.ensures.few d q (c.place_of_bytes.ensures.table ∙ sym (begins_table c.args.prefix.now q c.requires passes)))
    is)
    c.with_prefix.ensures
