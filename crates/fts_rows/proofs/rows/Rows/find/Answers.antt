use Rattle.std.proofs.Common.{◌≡◌, [], ◌∷◌, ap, sym, subst, ◌∙◌}
use Rattle.std.specs.Prelude.{MatchOption}
use Rattle.fts_types.specs.Row.{row_of}
use Rattle.fts_commits.specs.Commit.{with_key}
use Rattle.fts_commits.specs.Turn.{RowsAscend}
use Rattle.fts_rows.specs.Rows.{Held}
use Rattle.fts_rows.specs.Slots.{rows_in, id_list}
use Rattle.fts_rows.proofs.Slotted.{slots-ids}
use Rattle.fts_rows.proofs.Keys.{led_only, none_led}
use Rattle.fts_rows.proofs.rows.Rows.find.Goals as goal

pub returns-in-Some-clause-row : goal.returns-in-Some-clause-row
returns-in-Some-clause-row c =
    let key = c.args.key in
    let largest = c.self.inside.largest in
    let rows = rows_in c.self.inside.slots.entries in
    let one = c.self.invariant.keys key ∙ ap id_list (sym c.in-Some.ensures.value) in
    subst (λ (h : Held). MatchOption c.row_at.result (with_key key h.rows.list ≡ []) (λ row. with_key key h.rows.list ≡ row_of row.now ∷ [])) c.self.view_is
    (led_only key c.in-Some.doc.now largest rows c.row_at.result (slots-ids 0 largest c.self.inside.slots.entries c.self.invariant.places) one
    (c.row_at.ensures largest c.self.invariant.places))

pub returns-in-Some-clause-ascend : goal.returns-in-Some-clause-ascend
returns-in-Some-clause-ascend c =
    subst (λ (h : Held). RowsAscend 0 h.rows.largest h.rows.list) c.self.view_is (slots-ids 0 c.self.inside.largest c.self.inside.slots.entries c.self.invariant.places)

pub returns-in-None-clause-row : goal.returns-in-None-clause-row
returns-in-None-clause-row c =
    let key = c.args.key in
    subst (λ (h : Held). with_key key h.rows.list ≡ []) c.self.view_is
    (none_led (with_key key (rows_in c.self.inside.slots.entries)) (c.self.invariant.keys key ∙ ap id_list (sym c.in-None.ensures.value)))

pub returns-in-None-clause-ascend : goal.returns-in-None-clause-ascend
returns-in-None-clause-ascend c =
    subst (λ (h : Held). RowsAscend 0 h.rows.largest h.rows.list) c.self.view_is (slots-ids 0 c.self.inside.largest c.self.inside.slots.entries c.self.invariant.places)
