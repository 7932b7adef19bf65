use Rattle.std.proofs.Common.{◌≤◌, ◌++◌, map, sym, subst, ap, ◌∙◌}
use Rattle.fts_types.specs.Row.{row_of}
use Rattle.fts_rows.specs.Rows.{Held}
use Rattle.fts_rows.specs.Plan.{HaveKeysOnce}
use Rattle.fts_rows.proofs.Ids.{ids-bounds}
use Rattle.fts_rows.proofs.Slotted.{slots-raise}
use Rattle.fts_rows.proofs.Once.{once_new}
use Rattle.fts_rows.proofs.rows.Rows.push_all.Goals as goal

pub push-requires-clause-key : goal.push-requires-clause-key
push-requires-clause-key c =
    let rows = c.loop-row.self.rows.list in
    let left = map row_of c.next.new.self.rest.items in
    once_new rows (row_of c.in-Some.row) left
    (subst HaveKeysOnce (sym c.loop-row.invariant.list ∙ ap (λ l. rows ++ map row_of l) c.in-Some.ensures.steps.0) c.requires.keys)

pub invariant_of-self : goal.invariant_of-self
invariant_of-self c =
    let largest = c.args.largest in
    let left = map row_of c.loop-row.row-iterator.rest.items in
    let up : c.self.inside.largest ≤ largest = subst (λ (h : Held). h.rows.largest ≤ largest) (sym c.self.view_is) (ids-bounds c.loop-row.self.rows.largest largest left c.loop-row.invariant.ids) in
    record {
      places = slots-raise 0 c.self.inside.largest largest c.self.inside.slots.entries c.self.invariant.places up;
      keys = c.self.invariant.keys;
      counted = c.self.invariant.counted;
    }
