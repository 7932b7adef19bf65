-- Rows by ascending ids.
use Rattle.std.proofs.Common.{◌≡◌, ℕ, ◌<◌, ◌≤◌, Bool, Option, cond, filter, List, [], ◌∷◌, ◌++◌, ap, ◌∙◌, arith, not, true, false, nat_eq, Some, None, refl}
use Rattle.std.proofs.lemmas.Bool.{ne_eqb}
use Rattle.fts_types.specs.Row.{Row}
use Rattle.fts_commits.specs.Turn.{RowsAscend}
use Rattle.fts_rows.specs.Rows.{row_with_id, without_id}

-- a row with a larger id comes behind the others
pub ids-push : (low high : ℕ) (rows : List Row) (row : Row) → RowsAscend low high rows → high < row.doc → RowsAscend low row.doc (rows ++ row ∷ [])
ids-push low high [] row ids above = (omega (arith, ids, above), omega arith)
ids-push low high (first ∷ rows) row ids above = (ids.0, ids-push first.doc high rows row ids.1 above)

-- each id is above a smaller bound
pub ids-lower : (less low high : ℕ) (rows : List Row) → RowsAscend low high rows → less ≤ low → RowsAscend less high rows
ids-lower less low high [] ids down = omega (arith, ids, down)
ids-lower less low high (first ∷ rows) ids down = (omega (arith, ids.0, down), ids.1)

-- the bounds of ids
pub ids-bounds : (low high : ℕ) (rows : List Row) → RowsAscend low high rows → low ≤ high
ids-bounds low high [] ids = ids
ids-bounds low high (first ∷ rows) ids = omega (arith, ids.0, ids-bounds first.doc high rows ids.1)

-- no row has an id that is not above all of theirs
pub none_below : (doc low high : ℕ) (rows : List Row) → RowsAscend low high rows → doc ≤ low → row_with_id doc rows ≡ None
none_below doc low high [] ids below = refl
none_below doc low high (row ∷ rows) ids below =
    ap (λ (b : Bool). cond b (Some row) (row_with_id doc rows)) (ne_eqb row.doc doc (λ same. omega (arith, same, below, ids.0)))
    ∙ none_below doc row.doc high rows ids.1 (omega (arith, ids.0, below))

not_out : (b : Bool) (row : Row) (rows : List Row) (found : Option Row) (left : List Row) → (found ≡ None → left ≡ rows) → cond b (Some row) found ≡ None → cond (not b) (row ∷ left) left ≡ row ∷ rows
not_out true row rows found left rest e = cc
not_out false row rows found left rest e = ap (λ (l : List Row). row ∷ l) (rest e)

-- where no row has the id, none is taken out
pub none_out : (doc : ℕ) (rows : List Row) → row_with_id doc rows ≡ None → without_id doc rows ≡ rows
none_out doc [] none = refl
none_out doc (row ∷ rows) none = not_out (nat_eq row.doc doc) row rows (row_with_id doc rows) (without_id doc rows) (none_out doc rows) none

-- some of the rows
pub ids-filter : (p : Row → Bool) (low high : ℕ) (rows : List Row) → RowsAscend low high rows → RowsAscend low high (filter p rows)
ids-filter p low high [] ids = ids
ids-filter p low high (row ∷ rows) ids = by (p row) (ids-filter p row.doc high rows ids.1)
  where
    by : (b : Bool) → RowsAscend row.doc high (filter p rows) → RowsAscend low high (cond b (row ∷ filter p rows) (filter p rows))
    by true rest = (ids.0, rest)
    by false rest = ids-lower low row.doc high (filter p rows) rest (omega (arith, ids.0))
