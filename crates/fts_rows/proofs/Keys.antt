-- The rows that keys lead to.
use Rattle.std.proofs.Common.{◌≡◌, ℕ, ◌+◌, ◌<◌, Bool, true, false, cond, ◌||◌, not, map, length, List, [], ◌∷◌, ◌++◌, Option, Some, None, is_some, option_map, nat_eq, true≢false, get_or, drop, refl, sym, ap, subst, ◌∙◌, arith, inl, inr, append-nil, length-append}
use Rattle.std.proofs.lemmas.Bool.{cases_Bool, eqb-true, ne_eqb, eq-eqb}
use Rattle.std.proofs.lemmas.List.{length-map}
use Rattle.std.proofs.lemmas.List.Filters.{length-filter_both}
use Rattle.std.proofs.lemmas.List.Elements.{filter-append}
use Rattle.std.specs.Prelude.{MatchOption}
use Rattle.std.specs.Borrow.{Bor}
use Rattle.std.specs.Option.{option_copied}
use Rattle.fts_types.specs.Row.{Row, row_of}
use Rattle.fts_types.specs.declared.row.Row.{Row as HeldRow}
use Rattle.fts_commits.specs.Commit.{has_key, with_key, without_key}
use Rattle.fts_commits.specs.Turn.{RowsAscend}
use Rattle.fts_rows.specs.Rows.{row_with_key, row_with_id, without_id}
use Rattle.fts_rows.specs.Slots.{id_list, LeadToRows}
use Rattle.fts_rows.proofs.Ids.{none_below, none_out}

abbrev pub docs : List Row → List ℕ
docs rows = map (λ (row : Row). row.doc) rows

-- a key leads to an id exactly where some row has it
pub has_led : (key : ℕ) (rows : List Row) (doc : Option ℕ) → docs (with_key key rows) ≡ id_list doc → is_some doc ≡ has_key key rows
has_led key [] None e = refl
has_led key [] (Some doc) e = absurd (omega (arith, ap length e))
has_led key (row ∷ rows) doc e = by (nat_eq row.key key) doc (has_led key rows doc) e
  where
    by : (b : Bool) (doc : Option ℕ) → (docs (with_key key rows) ≡ id_list doc → is_some doc ≡ has_key key rows) → docs (cond b (row ∷ with_key key rows) (with_key key rows)) ≡ id_list doc → is_some doc ≡ (b || has_key key rows)
    by true None rest e = absurd (omega (arith, ap length e))
    by true (Some doc) rest e = refl
    by false doc rest e = rest e

-- no row has the key
pub none_with : (key : ℕ) (rows : List Row) → has_key key rows ≡ false → with_key key rows ≡ []
none_with key [] none = refl
none_with key (row ∷ rows) none = by (nat_eq row.key key) (none_with key rows) none
  where
    by : (b : Bool) → (has_key key rows ≡ false → with_key key rows ≡ []) → (b || has_key key rows) ≡ false → cond b (row ∷ with_key key rows) (with_key key rows) ≡ []
    by true rest e = absurd (true≢false e)
    by false rest e = rest e

-- one more row, with a key that none has
pub lead-push : (old new : ℕ → Option ℕ) (rows : List Row) (row : Row) → LeadToRows old rows → has_key row.key rows ≡ false → ((q : ℕ) → new q ≡ cond (nat_eq row.key q) (Some row.doc) (old q)) → LeadToRows new (rows ++ row ∷ [])
lead-push old new rows row lead fresh updates q =
    ap docs (filter-append (λ (r : Row). nat_eq r.key q) rows (row ∷ []))
    ∙ elim (cases_Bool (nat_eq row.key q)) [
      | inl same ↦
          ap (λ (b : Bool). docs (with_key q rows ++ cond b (row ∷ []) [])) same
          ∙ ap (λ (l : List Row). docs (l ++ row ∷ [])) (subst (λ k. with_key k rows ≡ []) (eqb-true row.key q same) (none_with row.key rows fresh))
          ∙ ap id_list (sym (updates q ∙ ap (λ (b : Bool). cond b (Some row.doc) (old q)) same))
      | inr other ↦
          ap (λ (b : Bool). docs (with_key q rows ++ cond b (row ∷ []) [])) other
          ∙ ap docs (append-nil (with_key q rows))
          ∙ lead q
          ∙ ap id_list (sym (updates q ∙ ap (λ (b : Bool). cond b (Some row.doc) (old q)) other))
    ]

-- the rows of a key, where those of another went
others_stay : (key q : ℕ) (rows : List Row) → nat_eq key q ≡ false → with_key q (without_key key rows) ≡ with_key q rows
others_stay key q [] other = refl
others_stay key q (row ∷ rows) other = by (nat_eq row.key key) refl (others_stay key q rows other)
  where
    by : (b : Bool) → nat_eq row.key key ≡ b → with_key q (without_key key rows) ≡ with_key q rows → with_key q (cond (not b) (row ∷ without_key key rows) (without_key key rows)) ≡ with_key q (row ∷ rows)
    by true same rest =
        rest
        ∙ ap (λ (b : Bool). cond b (row ∷ with_key q rows) (with_key q rows))
        (sym (subst (λ k. nat_eq k q ≡ false) (sym (eqb-true row.key key same)) other))
    by false e rest = ap (λ (l : List Row). cond (nat_eq row.key q) (row ∷ l) l) rest

-- no row of a key is left where they went
pub own_go : (key : ℕ) (rows : List Row) → with_key key (without_key key rows) ≡ []
own_go key [] = refl
own_go key (row ∷ rows) = by (nat_eq row.key key) refl (own_go key rows)
  where
    by : (b : Bool) → nat_eq row.key key ≡ b → with_key key (without_key key rows) ≡ [] → with_key key (cond (not b) (row ∷ without_key key rows) (without_key key rows)) ≡ []
    by true same rest = rest
    by false e rest = ap (λ (b : Bool). cond b (row ∷ with_key key (without_key key rows)) (with_key key (without_key key rows))) e ∙ rest

-- a key's row is taken out
pub lead-out : (old new : ℕ → Option ℕ) (rows : List Row) (key : ℕ) → LeadToRows old rows → ((q : ℕ) → new q ≡ cond (nat_eq key q) None (old q)) → LeadToRows new (without_key key rows)
lead-out old new rows key lead updates q =
    elim (cases_Bool (nat_eq key q)) [
      | inl same ↦
          ap docs (subst (λ k. with_key k (without_key key rows) ≡ []) (eqb-true key q same) (own_go key rows))
          ∙ ap id_list (sym (updates q ∙ ap (λ (b : Bool). cond b None (old q)) same))
      | inr other ↦
          ap docs (others_stay key q rows other) ∙ lead q ∙ ap id_list (sym (updates q ∙ ap (λ (b : Bool). cond b None (old q)) other))
    ]

-- where a key leads nowhere, nothing is found, and nothing goes
pub none_found : (key : ℕ) (rows : List Row) → docs (with_key key rows) ≡ [] → row_with_key key rows ≡ None
none_found key [] e = refl
none_found key (row ∷ rows) e = by (nat_eq row.key key) (none_found key rows) e
  where
    by : (b : Bool) → (docs (with_key key rows) ≡ [] → row_with_key key rows ≡ None) → docs (cond b (row ∷ with_key key rows) (with_key key rows)) ≡ [] → cond b (Some row) (row_with_key key rows) ≡ None
    by true rest e = absurd (omega (arith, ap length e))
    by false rest e = rest e

pub none_go : (key : ℕ) (rows : List Row) → docs (with_key key rows) ≡ [] → without_key key rows ≡ rows
none_go key [] e = refl
none_go key (row ∷ rows) e = by (nat_eq row.key key) (none_go key rows) e
  where
    by : (b : Bool) → (docs (with_key key rows) ≡ [] → without_key key rows ≡ rows) → docs (cond b (row ∷ with_key key rows) (with_key key rows)) ≡ [] → cond (not b) (row ∷ without_key key rows) (without_key key rows) ≡ row ∷ rows
    by true rest e = absurd (omega (arith, ap length e))
    by false rest e = ap (λ (l : List Row). row ∷ l) (rest e)

-- the id to which a key leads is one of the rows'
led_above : (key doc low high : ℕ) (rows : List Row) → RowsAscend low high rows → docs (with_key key rows) ≡ doc ∷ [] → low < doc
led_above key doc low high [] ids e = absurd (omega (arith, ap length e))
led_above key doc low high (row ∷ rows) ids e = by (nat_eq row.key key) (led_above key doc row.doc high rows ids.1) e
  where
    by : (b : Bool) → (docs (with_key key rows) ≡ doc ∷ [] → row.doc < doc) → docs (cond b (row ∷ with_key key rows) (with_key key rows)) ≡ doc ∷ [] → low < doc
    by true rest e = omega (arith, ap (λ (l : List ℕ). get_or l 0 0) e, ids.0)
    by false rest e = let up = rest e in omega (arith, up, ids.0)

-- the row of a key is that of the id to which it leads
pub led_found : (key doc low high : ℕ) (rows : List Row) → RowsAscend low high rows → docs (with_key key rows) ≡ doc ∷ [] → row_with_id doc rows ≡ row_with_key key rows
led_found key doc low high [] ids e = refl
led_found key doc low high (row ∷ rows) ids e = by (nat_eq row.key key) (led_found key doc row.doc high rows ids.1) e
  where
    by : (b : Bool) → (docs (with_key key rows) ≡ doc ∷ [] → row_with_id doc rows ≡ row_with_key key rows) → docs (cond b (row ∷ with_key key rows) (with_key key rows)) ≡ doc ∷ []
        → row_with_id doc (row ∷ rows) ≡ cond b (Some row) (row_with_key key rows)
    by true rest e = ap (λ (b : Bool). cond b (Some row) (row_with_id doc rows)) (eq-eqb row.doc doc (ap (λ (l : List ℕ). get_or l 0 0) e))
    by false rest e =
        let up = led_above key doc row.doc high rows ids.1 e in
        ap (λ (b : Bool). cond b (Some row) (row_with_id doc rows)) (ne_eqb row.doc doc (λ same. omega (arith, same, up)))
        ∙ rest e

-- and so is what goes with it
pub led_out : (key doc low high : ℕ) (rows : List Row) → RowsAscend low high rows → docs (with_key key rows) ≡ doc ∷ [] → without_id doc rows ≡ without_key key rows
led_out key doc low high [] ids e = refl
led_out key doc low high (row ∷ rows) ids e = by (nat_eq row.key key) (led_out key doc row.doc high rows ids.1) e
  where
    by : (b : Bool) → (docs (with_key key rows) ≡ doc ∷ [] → without_id doc rows ≡ without_key key rows) → docs (cond b (row ∷ with_key key rows) (with_key key rows)) ≡ doc ∷ []
        → without_id doc (row ∷ rows) ≡ cond (not b) (row ∷ without_key key rows) (without_key key rows)
    by true rest e =
        let same : row.doc ≡ doc = ap (λ (l : List ℕ). get_or l 0 0) e in
        ap (λ (b : Bool). cond (not b) (row ∷ without_id doc rows) (without_id doc rows)) (eq-eqb row.doc doc same)
        ∙ none_out doc rows (none_below doc row.doc high rows ids.1 (omega (arith, same)))
        ∙ sym (none_go key rows (ap (drop 1) e))
    by false rest e =
        let up = led_above key doc row.doc high rows ids.1 e in
        ap (λ (b : Bool). cond (not b) (row ∷ without_id doc rows) (without_id doc rows)) (ne_eqb row.doc doc (λ same. omega (arith, same, up)))
        ∙ ap (λ (l : List Row). row ∷ l) (rest e)

-- one more row counts one more
pub count-push : (count : ℕ) (rows : List Row) (row : Row) → count ≡ length rows → count + 1 ≡ length (rows ++ row ∷ [])
count-push count rows row e = grind (arith, length-append, e)

-- a key that leads to a row counts one less without it
pub count-out : (count less key doc : ℕ) (rows : List Row) → docs (with_key key rows) ≡ doc ∷ [] → less + 1 ≡ count → count ≡ length rows → less ≡ length (without_key key rows)
count-out count less key doc rows e fewer counted =
    let one : length (with_key key rows) ≡ 1 = sym (length-map (with_key key rows) (λ (row : Row). row.doc)) ∙ ap length e in
    let both = length-filter_both (λ (row : Row). nat_eq row.key key) (λ (row : Row). not (nat_eq row.key key)) (λ row. refl) rows in
    omega (arith, one, both, fewer, counted)

-- where a key leads nowhere, no row has it
pub none_led : (rows : List Row) → docs rows ≡ [] → rows ≡ []
none_led [] e = refl
none_led (row ∷ rows) e = absurd (omega (arith, ap length e))

first_of : List Row → Option Row
first_of [] = None
first_of (row ∷ rows) = Some row

found_first : (key : ℕ) (rows : List Row) → row_with_key key rows ≡ first_of (with_key key rows)
unfolding first_of
found_first key [] = refl
found_first key (row ∷ rows) = by (nat_eq row.key key) (found_first key rows)
  where
    by : (b : Bool) → row_with_key key rows ≡ first_of (with_key key rows) → cond b (Some row) (row_with_key key rows) ≡ first_of (cond b (row ∷ with_key key rows) (with_key key rows))
    by true rest = refl
    by false rest = rest

-- a row that is found is the only one of its list
only_one : (rows : List Row) (doc : ℕ) (found : Option Row) → docs rows ≡ doc ∷ [] → found ≡ first_of rows → MatchOption found (rows ≡ []) (λ row. rows ≡ row ∷ [])
unfolding first_of
only_one [] doc found e is = absurd (omega (arith, ap length e))
only_one (row ∷ []) doc found e is = subst (λ (f : Option Row). MatchOption f (row ∷ [] ≡ []) (λ r. row ∷ [] ≡ r ∷ [])) (sym is) refl
only_one (row ∷ other ∷ rows) doc found e is = absurd (omega (arith, ap length e))

copied : (rows : List Row) (found : Option (Bor HeldRow)) → MatchOption (option_map row_of (option_copied found)) (rows ≡ []) (λ row. rows ≡ row ∷ []) → MatchOption found (rows ≡ []) (λ row. rows ≡ row_of row.now ∷ [])
copied rows None only = only
copied rows (Some row) only = only

-- the row that an id leads to, to which a key led, is the only one of the key
pub led_only : (key doc high : ℕ) (rows : List Row) (found : Option (Bor HeldRow)) → RowsAscend 0 high rows → docs (with_key key rows) ≡ doc ∷ [] → option_map row_of (option_copied found) ≡ row_with_id doc rows
    → MatchOption found (with_key key rows ≡ []) (λ row. with_key key rows ≡ row_of row.now ∷ [])
led_only key doc high rows found ids one is =
    copied (with_key key rows) found (only_one (with_key key rows) doc (option_map row_of (option_copied found)) one (is ∙ led_found key doc 0 high rows ids one ∙ found_first key rows))
