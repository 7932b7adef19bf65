-- Rows in their slots.
use Rattle.std.proofs.Common.{◌≡◌, ℕ, ◌<◌, ◌≤◌, Bool, true, false, cond, not, filter, List, [], ◌∷◌, ◌++◌, Option, Some, None, is_some, option_map, nat_eq, refl, sym, ap, subst, ◌∙◌, arith, inl, inr, append_assoc}
use Rattle.std.proofs.lemmas.Bool.{cases_Bool, eqb-true, eqb-false, ne_eqb, eq-eqb}
use Rattle.std.specs.Map.{lookup, set_value}
use Rattle.indexmap.specs.IndexMap.{insert_entry}
use Rattle.fts_types.specs.Row.{Row, row_of}
use Rattle.fts_commits.specs.Turn.{RowsAscend}
use Rattle.fts_types.specs.declared.row.Row.{Row as HeldRow}
use Rattle.fts_rows.specs.Rows.{row_with_id, without_id}
use Rattle.fts_rows.specs.Slots.{Slots, row_in, rows_in, IsAt, AreSlots}
use Rattle.fts_rows.proofs.Ids.{ids-lower, none_below, none_out}

-- a slot's row before others
slot_before : (low high doc : ℕ) (slot : Option HeldRow) (rows : List Row) → low < doc → IsAt doc slot → RowsAscend doc high rows → RowsAscend low high (row_in slot ++ rows)
slot_before low high doc None rows above at ids = ids-lower low doc high rows ids (omega (arith, above))
slot_before low high doc (Some row) rows above at ids = (omega (arith, above, at), subst (λ n. RowsAscend n high rows) (sym at) ids)

-- the ids of the rows ascend
pub slots-ids : (low high : ℕ) (slots : Slots) → AreSlots low high slots → RowsAscend low high (rows_in slots)
slots-ids low high [] are = are
slots-ids low high (slot ∷ slots) are = slot_before low high slot.0 slot.1 (rows_in slots) are.0 are.1 (slots-ids slot.0 high slots are.2)

slots-lower : (less low high : ℕ) (slots : Slots) → AreSlots low high slots → less ≤ low → AreSlots less high slots
slots-lower less low high [] are down = omega (arith, are, down)
slots-lower less low high (slot ∷ slots) are down = (omega (arith, are.0, down), are.1, are.2)

pub slots-raise : (low high more : ℕ) (slots : Slots) → AreSlots low high slots → high ≤ more → AreSlots low more slots
slots-raise low high more [] are up = omega (arith, are, up)
slots-raise low high more (slot ∷ slots) are up = (are.0, are.1, slots-raise slot.0 high more slots are.2 up)

slots-bounds : (low high : ℕ) (slots : Slots) → AreSlots low high slots → low ≤ high
slots-bounds low high [] are = are
slots-bounds low high (slot ∷ slots) are = omega (arith, are.0, slots-bounds slot.0 high slots are.2)

-- one more row, behind the others
abbrev slot_of : HeldRow → ℕ × Option HeldRow
slot_of row = (row.doc, Some row)

slots-push : (low high : ℕ) (slots : Slots) (row : HeldRow) → AreSlots low high slots → high < row.doc → AreSlots low row.doc (slots ++ slot_of row ∷ [])
slots-push low high [] row are above = (omega (arith, are, above), refl, omega arith)
slots-push low high (slot ∷ slots) row are above = (are.0, are.1, slots-push slot.0 high slots row are.2 above)

rows-push : (slots : Slots) (row : HeldRow) → rows_in (slots ++ slot_of row ∷ []) ≡ rows_in slots ++ row_of row ∷ []
rows-push [] row = refl
rows-push (slot ∷ slots) row = ap (λ (l : List Row). row_in slot.1 ++ l) (rows-push slots row) ∙ sym (append_assoc (row_in slot.1) (rows_in slots) (row_of row ∷ []))

inserted : (low high : ℕ) (slots : Slots) (row : HeldRow) → AreSlots low high slots → high < row.doc → insert_entry nat_eq slots row.doc (Some row) ≡ slots ++ slot_of row ∷ []
inserted low high [] row are above = refl
inserted low high (slot ∷ slots) row are above =
    ap (λ (b : Bool). cond b ((slot.0, Some row) ∷ slots) (slot ∷ insert_entry nat_eq slots row.doc (Some row)))
    (ne_eqb row.doc slot.0 (λ same. let up = slots-bounds slot.0 high slots are.2 in omega (arith, same, above, up)))
    ∙ ap (λ (l : Slots). slot ∷ l) (inserted slot.0 high slots row are.2 above)

pub pushed_kept : (high : ℕ) (old new : Slots) (row : HeldRow) → new ≡ insert_entry nat_eq old row.doc (Some row) → AreSlots 0 high old → high < row.doc → AreSlots 0 row.doc new
pushed_kept high old new row e are above = subst (λ (l : Slots). AreSlots 0 row.doc l) (sym (e ∙ inserted 0 high old row are above)) (slots-push 0 high old row are above)

pub pushed_rows : (high : ℕ) (old new : Slots) (row : HeldRow) → new ≡ insert_entry nat_eq old row.doc (Some row) → AreSlots 0 high old → high < row.doc → rows_in new ≡ rows_in old ++ row_of row ∷ []
pushed_rows high old new row e are above = ap rows_in (e ∙ inserted 0 high old row are above) ∙ rows-push old row

-- the row in a slot that was looked up, if there is one
abbrev pub row_found : Option (Option HeldRow) → Option Row
row_found None = None
row_found (Some slot) = option_map row_of slot

here : (low high doc at : ℕ) (slot : Option HeldRow) (rows : List Row) → doc ≡ at → IsAt at slot → RowsAscend at high rows → option_map row_of slot ≡ row_with_id doc (row_in slot ++ rows)
here low high doc at None rows same is ids = sym (none_below doc at high rows ids (omega (arith, same)))
here low high doc at (Some row) rows same is ids = ap (λ (b : Bool). cond b (Some (row_of row)) (row_with_id doc rows)) (sym (eq-eqb row.doc doc (is ∙ sym same)))

passed : (doc at : ℕ) (slot : Option HeldRow) (rows : List Row) → (doc ≡ at → ⊥) → IsAt at slot → row_with_id doc (row_in slot ++ rows) ≡ row_with_id doc rows
passed doc at None rows other is = refl
passed doc at (Some row) rows other is = ap (λ (b : Bool). cond b (Some (row_of row)) (row_with_id doc rows)) (ne_eqb row.doc doc (λ same. other (sym same ∙ is)))

-- the row with an id is what its slot has
pub located : (low high doc : ℕ) (slots : Slots) → AreSlots low high slots → row_found (lookup (λ k. nat_eq doc k) slots) ≡ row_with_id doc (rows_in slots)
located low high doc [] are = refl
located low high doc (slot ∷ slots) are =
    elim (cases_Bool (nat_eq doc slot.0)) [
      | inl same ↦
          ap (λ (b : Bool). row_found (cond b (Some slot.1) (lookup (λ k. nat_eq doc k) slots))) same
          ∙ here low high doc slot.0 slot.1 (rows_in slots) (eqb-true doc slot.0 same) are.1 (slots-ids slot.0 high slots are.2)
      | inr other ↦
          ap (λ (b : Bool). row_found (cond b (Some slot.1) (lookup (λ k. nat_eq doc k) slots))) other
          ∙ located slot.0 high doc slots are.2
          ∙ sym (passed doc slot.0 slot.1 (rows_in slots) (eqb-false doc slot.0 other) are.1)
    ]

-- a slot without its row
pub slots-emptied : (low high doc : ℕ) (slots : Slots) → AreSlots low high slots → AreSlots low high (set_value (λ k. nat_eq doc k) slots None)
slots-emptied low high doc [] are = are
slots-emptied low high doc (slot ∷ slots) are = by (nat_eq doc slot.0) (slots-emptied slot.0 high doc slots are.2)
  where
    by : (b : Bool) → AreSlots slot.0 high (set_value (λ k. nat_eq doc k) slots None) → AreSlots low high (cond b ((slot.0, None) ∷ slots) (slot ∷ set_value (λ k. nat_eq doc k) slots None))
    by true rest = (are.0, tt, are.2)
    by false rest = (are.0, are.1, rest)

gone : (doc at high : ℕ) (slot : Option HeldRow) (rows : List Row) → doc ≡ at → IsAt at slot → RowsAscend at high rows → without_id doc (row_in slot ++ rows) ≡ rows
gone doc at high None rows same is ids = none_out doc rows (none_below doc at high rows ids (omega (arith, same)))
gone doc at high (Some row) rows same is ids =
    ap (λ (b : Bool). cond (not b) (row_of row ∷ without_id doc rows) (without_id doc rows)) (eq-eqb row.doc doc (is ∙ sym same))
    ∙ none_out doc rows (none_below doc at high rows ids (omega (arith, same)))

stays : (doc at : ℕ) (slot : Option HeldRow) (rows : List Row) → (doc ≡ at → ⊥) → IsAt at slot → without_id doc (row_in slot ++ rows) ≡ row_in slot ++ without_id doc rows
stays doc at None rows other is = refl
stays doc at (Some row) rows other is =
    ap (λ (b : Bool). cond (not b) (row_of row ∷ without_id doc rows) (without_id doc rows)) (ne_eqb row.doc doc (λ same. other (sym same ∙ is)))

pub rows-emptied : (low high doc : ℕ) (slots : Slots) → AreSlots low high slots → rows_in (set_value (λ k. nat_eq doc k) slots None) ≡ without_id doc (rows_in slots)
rows-emptied low high doc [] are = refl
rows-emptied low high doc (slot ∷ slots) are =
    elim (cases_Bool (nat_eq doc slot.0)) [
      | inl same ↦
          ap (λ (b : Bool). rows_in (cond b ((slot.0, None) ∷ slots) (slot ∷ set_value (λ k. nat_eq doc k) slots None))) same
          ∙ sym (gone doc slot.0 high slot.1 (rows_in slots) (eqb-true doc slot.0 same) are.1 (slots-ids slot.0 high slots are.2))
      | inr other ↦
          ap (λ (b : Bool). rows_in (cond b ((slot.0, None) ∷ slots) (slot ∷ set_value (λ k. nat_eq doc k) slots None))) other
          ∙ ap (λ (l : List Row). row_in slot.1 ++ l) (rows-emptied slot.0 high doc slots are.2)
          ∙ sym (stays doc slot.0 slot.1 (rows_in slots) (eqb-false doc slot.0 other) are.1)
    ]

-- the slots that have a row
abbrev pub is_full : ℕ × Option HeldRow → Bool
is_full slot = is_some slot.1

pub slots-full : (low high : ℕ) (slots : Slots) → AreSlots low high slots → AreSlots low high (filter is_full slots)
slots-full low high [] are = are
slots-full low high (slot ∷ slots) are = by (is_some slot.1) (slots-full slot.0 high slots are.2)
  where
    by : (b : Bool) → AreSlots slot.0 high (filter is_full slots) → AreSlots low high (cond b (slot ∷ filter is_full slots) (filter is_full slots))
    by true rest = (are.0, are.1, rest)
    by false rest = slots-lower low slot.0 high (filter is_full slots) rest (omega (arith, are.0))

full : (doc : ℕ) (slot : Option HeldRow) (slots : Slots) → rows_in (cond (is_some slot) ((doc, slot) ∷ slots) slots) ≡ row_in slot ++ rows_in slots
full doc None slots = refl
full doc (Some row) slots = refl

pub rows-full : (slots : Slots) → rows_in (filter is_full slots) ≡ rows_in slots
rows-full [] = refl
rows-full (slot ∷ slots) = full slot.0 slot.1 (filter is_full slots) ∙ ap (λ (l : List Row). row_in slot.1 ++ l) (rows-full slots)
