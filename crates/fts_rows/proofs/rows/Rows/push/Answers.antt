use Rattle.std.proofs.Common.{◌≡◌, ◌<◌, ◌+◌, false, length, nat_eq, sym, ap, subst, ◌∙◌, Bool, is_some, if◌then◌else◌}
use Rattle.std.specs.HashMap.{get, hash_map_len}
use Rattle.fts_commits.specs.Commit.{has_key}
use Rattle.fts_types.specs.Row.{row_of}
use Rattle.fts_rows.specs.Rows.{Held}
use Rattle.fts_rows.specs.Slots.{LeadToRows, rows_in}
use Rattle.fts_rows.proofs.Keys.{has_led, lead-push, count-push}
use Rattle.fts_rows.proofs.rows.Rows.push.Goals as goal

pub invariant_of-self : goal.invariant_of-self
invariant_of-self c =
    let row = row_of c.args.row in
    let largest = c.self.inside.largest in
    let rows = rows_in c.self.inside.slots.entries in
    let fresh : has_key row.key rows ≡ false = subst (λ (h : Held). has_key row.key h.rows.list ≡ false) (sym c.self.view_is) c.requires.key in
    let above : largest < row.doc = subst (λ (h : Held). h.rows.largest < row.doc) (sym c.self.view_is) c.requires.id in
    let none : is_some c.in-Ok.field-0 ≡ false =
    ap is_some c.in-Ok.ensures.old ∙ has_led row.key rows (get nat_eq c.self.inside.docs row.key) (c.self.invariant.keys row.key) ∙ fresh in
    let more = c.push_row.ensures.rows largest c.self.invariant.places above in
    record {
      places = c.push_row.ensures.kept largest c.self.invariant.places above;
      keys = subst (LeadToRows (get nat_eq c.insert.new.self)) (sym more)
          (lead-push (get nat_eq c.self.inside.docs) (get nat_eq c.insert.new.self) rows row c.self.invariant.keys fresh c.in-Ok.ensures.updates.0);
      counted = c.in-Ok.ensures.len ∙ ap (λ (b : Bool). hash_map_len c.self.inside.docs + (if b then 0 else 1)) none
          ∙ count-push (hash_map_len c.self.inside.docs) rows row c.self.invariant.counted ∙ ap length (sym more);
    }
