use Rattle.std.proofs.Common.{◌≡◌, List, Some, ap, sym, subst, ◌∙◌, nat_eq}
use Rattle.std.specs.HashMap.{get}
use Rattle.fts_types.specs.Row.{Row, row_of}
use Rattle.fts_commits.specs.Commit.{Rows, without_key}
use Rattle.fts_rows.specs.Rows.{Held, row_with_id, without_id}
use Rattle.fts_rows.specs.Slots.{rows_in}
use Rattle.fts_rows.proofs.Ids.{none_out}
use Rattle.fts_rows.proofs.Slotted.{slots-ids}
use Rattle.fts_rows.proofs.Once.{led_once, found_goes}
use Rattle.fts_rows.proofs.rows.Rows.remove_id.Goals as goal

pub returns-in-None-clause-rows : goal.returns-in-None-clause-rows
returns-in-None-clause-rows c =
    let doc = c.args.doc in
    let largest = c.self.inside.largest in
    let none = none_out doc (rows_in c.self.inside.slots.entries) (sym (c.in-None.ensures largest c.self.invariant.places)) in
    subst (λ (h : Held). let gone : Rows = record { list = without_id doc h.rows.list; largest = h.rows.largest } in h.rows ≡ gone) c.self.view_is
    (ap (λ (l : List Row). let r : Rows = record { list = l; largest = largest } in r) (sym none))

pub returns-clause-rows : goal.returns-clause-rows
returns-clause-rows c =
    let doc = c.args.doc in
    let largest = c.self.inside.largest in
    let rows = rows_in c.self.inside.slots.entries in
    let row = row_of c.in-Some.row.now in
    let found : row_with_id doc rows ≡ Some row = sym (c.in-Some.ensures largest c.self.invariant.places) in
    let goes : without_key row.key rows ≡ without_id doc rows =
    found_goes doc 0 largest rows row (slots-ids 0 largest c.self.inside.slots.entries c.self.invariant.places) (led_once (get nat_eq c.self.inside.docs) rows c.self.invariant.keys) found in
    c.remove.ensures.rows
    ∙ subst (λ (h : Held). let left : Rows = record { list = without_key row.key h.rows.list; largest = h.rows.largest } in let gone : Rows = record { list = without_id doc h.rows.list; largest = h.rows.largest } in left ≡ gone) c.self.view_is
    (ap (λ (l : List Row). let r : Rows = record { list = l; largest = largest } in r) goes)
