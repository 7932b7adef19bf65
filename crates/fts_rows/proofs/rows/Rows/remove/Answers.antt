use Rattle.std.proofs.Common.{◌≡◌, List, length, nat_eq, sym, ap, subst, ◌∙◌}
use Rattle.std.specs.HashMap.{get, hash_map_len}
use Rattle.fts_types.specs.Row.{Row}
use Rattle.fts_commits.specs.Commit.{Rows, without_key}
use Rattle.fts_rows.specs.Rows.{Held, row_with_key}
use Rattle.fts_rows.specs.Slots.{LeadToRows, rows_in, id_list}
use Rattle.fts_rows.proofs.Slotted.{slots-ids}
use Rattle.fts_rows.proofs.Keys.{led_out, led_found, lead-out, none_go, none_found, count-out}
use Rattle.fts_rows.proofs.rows.Rows.remove.Goals as goal

pub invariant_of-self : goal.invariant_of-self
invariant_of-self c =
    let key = c.args.key in
    let largest = c.self.inside.largest in
    let slots = c.self.inside.slots.entries in
    let rows = rows_in slots in
    let leads = c.self.invariant.keys key ∙ ap id_list (sym c.in-Some.ensures.value) in
    let left : rows_in c.take_row.new.slots.entries ≡ without_key key rows =
    c.take_row.ensures.rows largest c.self.invariant.places
    ∙ led_out key c.in-Some.doc 0 largest rows (slots-ids 0 largest slots c.self.invariant.places) leads in
    record {
      places = c.take_row.ensures.kept largest c.self.invariant.places;
      keys = subst (LeadToRows (get nat_eq c.remove.new.self)) (sym left)
          (lead-out (get nat_eq c.self.inside.docs) (get nat_eq c.remove.new.self) rows key c.self.invariant.keys c.in-Some.ensures.updates.0);
      counted = count-out (hash_map_len c.self.inside.docs) (hash_map_len c.remove.new.self) key c.in-Some.doc rows leads c.in-Some.ensures.len c.self.invariant.counted ∙ ap length (sym left);
    }

pub returns-in-Some-clause-row : goal.returns-in-Some-clause-row
returns-in-Some-clause-row c =
    let key = c.args.key in
    let largest = c.self.inside.largest in
    let slots = c.self.inside.slots.entries in
    let leads = c.self.invariant.keys key ∙ ap id_list (sym c.in-Some.ensures.value) in
    c.take_row.ensures.row largest c.self.invariant.places
    ∙ led_found key c.in-Some.doc 0 largest (rows_in slots) (slots-ids 0 largest slots c.self.invariant.places) leads
    ∙ ap (λ (h : Held). row_with_key key h.rows.list) c.self.view_is

pub returns-in-Some-clause-rows : goal.returns-in-Some-clause-rows
returns-in-Some-clause-rows c =
    let key = c.args.key in
    let largest = c.self.inside.largest in
    let slots = c.self.inside.slots.entries in
    let leads = c.self.invariant.keys key ∙ ap id_list (sym c.in-Some.ensures.value) in
    ap (λ (l : List Row). let r : Rows = record { list = l; largest = largest } in r)
    (c.take_row.ensures.rows largest c.self.invariant.places
    ∙ led_out key c.in-Some.doc 0 largest (rows_in slots) (slots-ids 0 largest slots c.self.invariant.places) leads)
    ∙ ap (λ (h : Held). let r : Rows = record { list = without_key key h.rows.list; largest = h.rows.largest } in r) c.self.view_is

pub returns-in-None-clause-row : goal.returns-in-None-clause-row
returns-in-None-clause-row c =
    let key = c.args.key in
    sym (none_found key (rows_in c.self.inside.slots.entries) (c.self.invariant.keys key ∙ ap id_list (sym c.in-None.ensures.value)))
    ∙ ap (λ (h : Held). row_with_key key h.rows.list) c.self.view_is

pub returns-in-None-clause-rows : goal.returns-in-None-clause-rows
returns-in-None-clause-rows c =
    let key = c.args.key in
    ap (λ (l : List Row). let r : Rows = record { list = l; largest = c.self.inside.largest } in r)
    (sym (none_go key (rows_in c.self.inside.slots.entries) (c.self.invariant.keys key ∙ ap id_list (sym c.in-None.ensures.value))))
    ∙ ap (λ (h : Held). let r : Rows = record { list = without_key key h.rows.list; largest = h.rows.largest } in r) c.self.view_is
