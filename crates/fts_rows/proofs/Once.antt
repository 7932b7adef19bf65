-- Rows of which no two have one key.
use Rattle.std.proofs.Common.{◌≡◌, ℕ, ◌<◌, ◌≤◌, Bool, true, false, cond, not, ◌||◌, filter, List, [], ◌∷◌, ◌++◌, Option, Some, None, nat_eq, length, map, refl, sym, ap, subst, ◌∙◌, arith, inl, inr, append-nil, length-append, true≢false}
use Rattle.std.proofs.lemmas.Bool.{cases_Bool, eqb-true, eq-eqb}
use Rattle.std.proofs.lemmas.List.{length-map}
use Rattle.std.proofs.lemmas.List.Elements.{filter-append}
use Rattle.std.proofs.lemmas.List.Folds.{list_any-append}
use Rattle.std.specs.Prelude.{MatchOption, is_some}
use Rattle.std.specs.Borrow.{Bor}
use Rattle.fts_types.specs.Row.{Row, row_of}
use Rattle.fts_types.specs.declared.row.Row.{Row as HeldRow}
use Rattle.fts_commits.specs.Commit.{has_key, with_key, without_key}
use Rattle.fts_commits.specs.Turn.{RowsAscend}
use Rattle.fts_rows.specs.Rows.{row_with_id, without_id}
use Rattle.fts_rows.specs.Plan.{HaveKeysOnce}
use Rattle.fts_rows.specs.Slots.{id_list, LeadToRows}
use Rattle.fts_rows.proofs.Ids.{none_below, none_out}
use Rattle.fts_rows.proofs.Keys.{docs, none_go}
use Rattle.fts_rows.proofs.Deaths.{filters_swap}

-- no row has a key, seen both ways
pub none_has : (key : ℕ) (rows : List Row) → with_key key rows ≡ [] → has_key key rows ≡ false
none_has key [] none = refl
none_has key (row ∷ rows) none = by (nat_eq row.key key) (none_has key rows) none
  where
    by : (b : Bool) → (with_key key rows ≡ [] → has_key key rows ≡ false) → cond b (row ∷ with_key key rows) (with_key key rows) ≡ [] → (b || has_key key rows) ≡ false
    by true rest e = absurd (omega (arith, ap length e))
    by false rest e = rest e

-- some row has a key, seen both ways
pub some_has : (key : ℕ) (rows : List Row) (row : Row) (others : List Row) → with_key key rows ≡ row ∷ others → has_key key rows ≡ true
some_has key [] first others some = absurd (omega (arith, ap length some))
some_has key (row ∷ rows) first others some = by (nat_eq row.key key) (some_has key rows first others) some
  where
    by : (b : Bool) → (with_key key rows ≡ first ∷ others → has_key key rows ≡ true) → cond b (row ∷ with_key key rows) (with_key key rows) ≡ first ∷ others → (b || has_key key rows) ≡ true
    by true rest e = refl
    by false rest e = rest e

-- where no row of two lists has a key, none of the second has
pub none_behind : (key : ℕ) (rows more : List Row) → has_key key (rows ++ more) ≡ false → has_key key more ≡ false
none_behind key rows more none = second (has_key key rows) (has_key key more) (sym (list_any-append (λ (row : Row). nat_eq row.key key) rows more) ∙ none)
  where
    second : (a b : Bool) → (a || b) ≡ false → b ≡ false
    second true b e = absurd (true≢false e)
    second false b e = e

-- whether a row of the key was found
pub found_has : (key : ℕ) (rows : List Row) (found : Option (Bor HeldRow)) → MatchOption found (with_key key rows ≡ []) (λ row. (others : List Row) × (with_key key rows ≡ row_of row.now ∷ others))
    → is_some found ≡ has_key key rows
found_has key rows None none = sym (none_has key rows none)
found_has key rows (Some row) some = sym (some_has key rows (row_of row.now) some.0 some.1)

-- a key has a row where it leads to one
pub led_has : (key : ℕ) (rows : List Row) (doc : Option ℕ) → map (λ (row : Row). row.doc) (with_key key rows) ≡ id_list doc → is_some doc ≡ has_key key rows
led_has key rows doc lead = by (with_key key rows) doc refl lead
  where
    by : (found : List Row) (doc : Option ℕ) → with_key key rows ≡ found → map (λ (row : Row). row.doc) found ≡ id_list doc → is_some doc ≡ has_key key rows
    by [] None is e = sym (none_has key rows is)
    by [] (Some doc) is e = absurd (omega (arith, ap length e))
    by (row ∷ others) None is e = absurd (omega (arith, ap length e))
    by (row ∷ others) (Some doc) is e = sym (some_has key rows row others is)

pub filter_fewer : (p : Row → Bool) (rows : List Row) → length (filter p rows) ≤ length rows
filter_fewer p [] = omega arith
filter_fewer p (row ∷ rows) = by (p row) (filter_fewer p rows)
  where
    by : (b : Bool) → length (filter p rows) ≤ length rows → length (cond b (row ∷ filter p rows) (filter p rows)) ≤ length (row ∷ rows)
    by true rest = omega (arith, rest)
    by false rest = omega (arith, rest)

-- what leads each key to a row leads to rows with their keys once
pub led_once : (doc_of : ℕ → Option ℕ) (rows : List Row) → LeadToRows doc_of rows → HaveKeysOnce rows
led_once doc_of rows lead key =
    let same : length (with_key key rows) ≡ length (id_list (doc_of key)) = sym (length-map (with_key key rows) (λ (row : Row). row.doc)) ∙ ap length (lead key) in
    let few : length (id_list (doc_of key)) ≤ 1 = most (doc_of key) in
    omega (arith, same, few)
  where
    most : (doc : Option ℕ) → length (id_list doc) ≤ 1
    most None = omega arith
    most (Some doc) = omega arith

-- some of the rows
pub once_without : (key : ℕ) (rows : List Row) → HaveKeysOnce rows → HaveKeysOnce (without_key key rows)
once_without key rows once q =
    let swapped = ap length (filters_swap (λ (row : Row). nat_eq row.key q) (λ row. not (nat_eq row.key key)) rows) in
    let fewer = filter_fewer (λ row. not (nat_eq row.key key)) (with_key q rows) in
    let most = once q in
    omega (arith, swapped, fewer, most)

-- one more row with a new key
pub once_more : (rows : List Row) (row : Row) → HaveKeysOnce rows → with_key row.key rows ≡ [] → HaveKeysOnce (rows ++ row ∷ [])
once_more rows row once none q =
    let all = filter-append (λ (r : Row). nat_eq r.key q) rows (row ∷ []) in
    let most = once q in
    elim (cases_Bool (nat_eq row.key q)) [
      | inl same ↦
          let empty : with_key q rows ≡ [] = subst (λ k. with_key k rows ≡ []) (eqb-true row.key q same) none in
          let is : length (with_key q (rows ++ row ∷ [])) ≡ 1 =
          ap length (all ∙ ap (λ (b : Bool). with_key q rows ++ cond b (row ∷ []) []) same ∙ ap (λ (l : List Row). l ++ row ∷ []) empty) in
          omega (arith, is)
      | inr other ↦
          let is : length (with_key q (rows ++ row ∷ [])) ≡ length (with_key q rows) =
          ap length (all ∙ ap (λ (b : Bool). with_key q rows ++ cond b (row ∷ []) []) other ∙ append-nil (with_key q rows)) in
          omega (arith, is, most)
    ]

-- a row among others that have their keys once has a key that none before it has
pub once_new : (rows : List Row) (row : Row) (more : List Row) → HaveKeysOnce (rows ++ row ∷ more) → has_key row.key rows ≡ false
once_new rows row more once =
    let all = ap length (filter-append (λ (r : Row). nat_eq r.key row.key) rows (row ∷ more)) in
    let own : length (with_key row.key (row ∷ more)) ≡ length (row ∷ with_key row.key more) =
    ap (λ (b : Bool). length (cond b (row ∷ with_key row.key more) (with_key row.key more))) (eq-eqb row.key row.key refl) in
    let most = once row.key in
    none_has row.key rows (nothing (with_key row.key rows) (grind (arith, length-append, all, own, most)))
  where
    nothing : (rows : List Row) → length rows ≡ 0 → rows ≡ []
    nothing [] e = refl
    nothing (r ∷ rs) e = absurd (omega (arith, e))

-- the row with an id is one of those with its key
found_among : (doc : ℕ) (rows : List Row) (row : Row) → row_with_id doc rows ≡ Some row → 0 < length (with_key row.key rows)
found_among doc [] row found = absurd cc
found_among doc (first ∷ rows) row found = by (nat_eq first.doc doc) (found_among doc rows row) found
  where
    behind : (b : Bool) → 0 < length (with_key row.key rows) → 0 < length (cond b (first ∷ with_key row.key rows) (with_key row.key rows))
    behind true some = omega arith
    behind false some = some

    by : (b : Bool) → (row_with_id doc rows ≡ Some row → 0 < length (with_key row.key rows)) → cond b (Some first) (row_with_id doc rows) ≡ Some row → 0 < length (with_key row.key (first ∷ rows))
    by true rest e =
        let same : first ≡ row = cc in
        let is = ap (λ (b : Bool). length (cond b (first ∷ with_key row.key rows) (with_key row.key rows))) (eq-eqb first.key row.key (ap (λ (r : Row). r.key) same)) in
        omega (arith, is)
    by false rest e = behind (nat_eq first.key row.key) (rest e)

-- where keys stand once, the rows without an id are those without its row's key
pub found_goes : (doc low high : ℕ) (rows : List Row) (row : Row) → RowsAscend low high rows → HaveKeysOnce rows → row_with_id doc rows ≡ Some row → without_key row.key rows ≡ without_id doc rows
found_goes doc low high [] row ids once found = refl
found_goes doc low high (first ∷ rows) row ids once found =
    by (nat_eq first.doc doc) refl (found_goes doc first.doc high rows row ids.1) found
  where
    fewer : HaveKeysOnce rows
    fewer q =
        let most = once q in
        less (nat_eq first.key q) most
      where
        less : (b : Bool) → length (cond b (first ∷ with_key q rows) (with_key q rows)) ≤ 1 → length (with_key q rows) ≤ 1
        less true most = omega (arith, most)
        less false most = most

    by : (b : Bool) → nat_eq first.doc doc ≡ b → (HaveKeysOnce rows → row_with_id doc rows ≡ Some row → without_key row.key rows ≡ without_id doc rows)
        → cond b (Some first) (row_with_id doc rows) ≡ Some row → without_key row.key (first ∷ rows) ≡ cond (not b) (first ∷ without_id doc rows) (without_id doc rows)
    by true is rest e =
        let same : first ≡ row = cc in
        let key : nat_eq first.key row.key ≡ true = eq-eqb first.key row.key (ap (λ (r : Row). r.key) same) in
        let most = once row.key in
        let one : length (with_key row.key (first ∷ rows)) ≡ length (first ∷ with_key row.key rows) = ap (λ (b : Bool). length (cond b (first ∷ with_key row.key rows) (with_key row.key rows))) key in
        let none : length (docs (with_key row.key rows)) ≡ 0 = (let same_length = length-map (with_key row.key rows) (λ (r : Row). r.doc) in omega (arith, one, most, same_length)) in
        ap (λ (b : Bool). cond (not b) (first ∷ without_key row.key rows) (without_key row.key rows)) key
        ∙ none_go row.key rows (nothing (docs (with_key row.key rows)) none)
        ∙ sym (none_out doc rows (none_below doc first.doc high rows ids.1 (let at = eqb-true first.doc doc is in omega (arith, at))))
      where
        nothing : (xs : List ℕ) → length xs ≡ 0 → xs ≡ []
        nothing [] e = refl
        nothing (x ∷ xs) e = absurd (omega (arith, e))
    by false is rest e =
        let some = found_among doc rows row e in
        let most = once row.key in
        let other : nat_eq first.key row.key ≡ false = apart (nat_eq first.key row.key) some most in
        ap (λ (b : Bool). cond (not b) (first ∷ without_key row.key rows) (without_key row.key rows)) other
        ∙ ap (λ (l : List Row). first ∷ l) (rest fewer e)
      where
        apart : (b : Bool) → 0 < length (with_key row.key rows) → length (cond b (first ∷ with_key row.key rows) (with_key row.key rows)) ≤ 1 → b ≡ false
        apart true some most = absurd (omega (arith, some, most))
        apart false some most = refl
