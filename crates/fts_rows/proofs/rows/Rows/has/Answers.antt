use Rattle.std.proofs.Common.{nat_eq, ap, subst, ◌∙◌}
use Rattle.std.specs.HashMap.{get}
use Rattle.fts_commits.specs.Commit.{has_key}
use Rattle.fts_commits.specs.Turn.{RowsAscend}
use Rattle.fts_rows.specs.Rows.{Held}
use Rattle.fts_rows.specs.Slots.{rows_in}
use Rattle.fts_rows.proofs.Slotted.{slots-ids}
use Rattle.fts_rows.proofs.Once.{led_has}
use Rattle.fts_rows.proofs.rows.Rows.has.Goals as goal

pub returns-clause-has : goal.returns-clause-has
returns-clause-has c =
    let key = c.args.key in
    c.contains_key.ensures ∙ led_has key (rows_in c.self.inside.slots.entries) (get nat_eq c.self.inside.docs key) (c.self.invariant.keys key)
    ∙ ap (λ (h : Held). has_key key h.rows.list) c.self.view_is

pub returns-clause-ascend : goal.returns-clause-ascend
returns-clause-ascend c =
    subst (λ (h : Held). RowsAscend 0 h.rows.largest h.rows.list) c.self.view_is (slots-ids 0 c.self.inside.largest c.self.inside.slots.entries c.self.invariant.places)
