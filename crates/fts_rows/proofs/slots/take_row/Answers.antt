use Rattle.std.proofs.Common.{ℕ, Option, option_map, nat_eq, sym, ap, subst, ◌∙◌}
use Rattle.std.specs.Map.{set_value}
use Rattle.indexmap.specs.IndexMap.{IndexMap}
use Rattle.fts_types.specs.declared.row.Row.{Row as HeldRow}
use Rattle.fts_types.specs.Row.{row_of}
use Rattle.fts_rows.specs.Slots.{Slots, AreSlots, rows_in}
use Rattle.fts_rows.proofs.Ids.{none_out}
use Rattle.fts_rows.proofs.Slotted.{row_found, located, slots-emptied, rows-emptied}
use Rattle.fts_rows.proofs.slots.take_row.Goals as goal

abbrev SlotMap : Type 0 → Type 0
SlotMap S = IndexMap ℕ (Option HeldRow) S

pub returns-in-Some-clause-row : goal.returns-in-Some-clause-row
returns-in-Some-clause-row c = λ high are. ap (option_map row_of) c.take.ensures.value ∙ ap row_found c.in-Some.ensures.value ∙ located 0 high c.args.doc c.args.slots.now.entries are

pub returns-in-Some-clause-kept : goal.returns-in-Some-clause-kept
returns-in-Some-clause-kept c = λ high are.
    let es = c.args.slots.now.entries in
    let emptied = (c.get_mut.follows.holds c.take.new.self).0 ∙ ap (set_value (λ k. nat_eq c.args.doc k) es) c.take.ensures.after in
    subst (λ (l : Slots). AreSlots 0 high l) (sym emptied) (slots-emptied 0 high c.args.doc es are)

pub returns-in-Some-clause-rows : goal.returns-in-Some-clause-rows
returns-in-Some-clause-rows c = λ high are.
    let es = c.args.slots.now.entries in
    let emptied = (c.get_mut.follows.holds c.take.new.self).0 ∙ ap (set_value (λ k. nat_eq c.args.doc k) es) c.take.ensures.after in
    ap rows_in emptied ∙ rows-emptied 0 high c.args.doc es are

pub returns-in-None-clause-row : goal.returns-in-None-clause-row
returns-in-None-clause-row c = λ high are. ap row_found c.in-None.ensures.value ∙ located 0 high c.args.doc c.args.slots.now.entries are

pub returns-in-None-clause-rows : goal.returns-in-None-clause-rows
returns-in-None-clause-rows c = λ high are.
    let es = c.args.slots.now.entries in
    ap (λ (m : SlotMap _). rows_in m.entries) c.get_mut.follows.holds-at-none ∙ sym (none_out c.args.doc (rows_in es) (sym (ap row_found c.in-None.ensures.value ∙ located 0 high c.args.doc es are)))
