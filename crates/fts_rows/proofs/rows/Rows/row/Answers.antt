use Rattle.std.proofs.Common.{ap, sym, ◌∙◌}
use Rattle.fts_rows.specs.Rows.{Held, row_with_key}
use Rattle.fts_rows.specs.Slots.{rows_in, id_list}
use Rattle.fts_rows.proofs.Slotted.{slots-ids}
use Rattle.fts_rows.proofs.Keys.{led_found, none_found}
use Rattle.fts_rows.proofs.rows.Rows.row.Goals as goal

pub returns-in-Some : goal.returns-in-Some
returns-in-Some c =
    let key = c.args.key in
    let doc = c.in-Some.doc.now in
    let largest = c.self.inside.largest in
    let slots = c.self.inside.slots.entries in
    let leads = c.self.invariant.keys key ∙ ap id_list (sym c.in-Some.ensures.value) in
    c.row_at.ensures largest c.self.invariant.places
    ∙ led_found key doc 0 largest (rows_in slots) (slots-ids 0 largest slots c.self.invariant.places) leads
    ∙ ap (λ (h : Held). row_with_key key h.rows.list) c.self.view_is

pub returns-in-None : goal.returns-in-None
returns-in-None c =
    let key = c.args.key in
    sym (none_found key (rows_in c.self.inside.slots.entries) (c.self.invariant.keys key ∙ ap id_list (sym c.in-None.ensures.value)))
    ∙ ap (λ (h : Held). row_with_key key h.rows.list) c.self.view_is
