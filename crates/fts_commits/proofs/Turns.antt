-- The turns of a database's commits.
use Rattle.std.proofs.Common.{◌≡◌, ℕ, ◌<◌, ◌≤◌, Bool, true, false, cond, ◌||◌, ◌&&◌, not, filter, List, [], ◌∷◌, ◌++◌, nat_eq, refl, sym, ap, subst, ◌∙◌, arith, append_assoc, append-nil}
use Rattle.std.proofs.lemmas.Bool.{ne_eqb, eq-eqb}
use Rattle.std.proofs.lemmas.List.Elements.{filter-append, All-filter, All-head, All-tail, All-map}
use Rattle.std.specs.List.{All}
use Rattle.fts_types.specs.Row.{Row}
use Rattle.fts_commits.specs.Commit.{Commit, Rows, no_rows, with_row, without_key, rows_after}
use Rattle.fts_commits.specs.Turn.{RowsAscend, AreTurns, has_doc, rows_not_in, turn_between, turns_from}
use Rattle.fts_commits.proofs.Ascending.{IsOrdered, none_ordered, commit_holds, commit_ordered}

pub ids-order : (low high : ℕ) (rows : List Row) → RowsAscend low high rows → low ≤ high
ids-order low high [] ids = ids
ids-order low high (row ∷ rows) ids = omega (arith, ids.0, ids-order row.doc high rows ids.1)

ids-push : (low high : ℕ) (rows : List Row) (row : Row) → RowsAscend low high rows → high < row.doc → RowsAscend low row.doc (rows ++ row ∷ [])
ids-push low high [] row ids above = (omega (arith, ids, above), omega arith)
ids-push low high (first ∷ rows) row ids above = (ids.0, ids-push first.doc high rows row ids.1 above)

ids-lower : (less low high : ℕ) (rows : List Row) → RowsAscend low high rows → less ≤ low → RowsAscend less high rows
ids-lower less low high [] ids down = omega (arith, ids, down)
ids-lower less low high (first ∷ rows) ids down = (omega (arith, ids.0, down), ids.1)

ids-filter : (p : Row → Bool) (low high : ℕ) (rows : List Row) → RowsAscend low high rows → RowsAscend low high (filter p rows)
ids-filter p low high [] ids = ids
ids-filter p low high (row ∷ rows) ids = by (p row) (ids-filter p row.doc high rows ids.1)
  where
    by : (b : Bool) → RowsAscend row.doc high (filter p rows) → RowsAscend low high (cond b (row ∷ filter p rows) (filter p rows))
    by true rest = (ids.0, rest)
    by false rest = ids-lower low row.doc high (filter p rows) rest (omega (arith, ids.0))

-- some of the rows before stand after it, and behind them rows with ids above all that were used
pub record Grown (before after : Rows) : Type 0 where
  pub test : Row → Bool
  pub news : List Row
  pub list : after.list ≡ filter test before.list ++ news
  pub ids : RowsAscend before.largest after.largest news

pub all_pass : (rows : List Row) → filter (λ row. true) rows ≡ rows
all_pass [] = refl
all_pass (row ∷ rows) = ap (λ (l : List Row). row ∷ l) (all_pass rows)

begins : (rows : Rows) → Grown rows rows
begins rows = record { test = λ row. true; news = []; list = sym (append-nil (filter (λ row. true) rows.list) ∙ all_pass rows.list); ids = omega arith }

both : (p t : Row → Bool) (rows : List Row) → filter p (filter t rows) ≡ filter (λ row. t row && p row) rows
both p t [] = refl
both p t (row ∷ rows) = by (t row) (both p t rows)
  where
    by : (b : Bool) → filter p (filter t rows) ≡ filter (λ row. t row && p row) rows
        → filter p (cond b (row ∷ filter t rows) (filter t rows)) ≡ cond (b && p row) (row ∷ filter (λ row. t row && p row) rows) (filter (λ row. t row && p row) rows)
    by true rest = ap (λ (l : List Row). cond (p row) (row ∷ l) l) rest
    by false rest = rest

one_more : (before : Rows) (key doc : ℕ) (texts : List (List ℕ)) (rows : Rows) → Grown before rows → rows.largest < doc → Grown before (with_row key doc texts rows)
one_more before key doc texts rows grown above =
    let row : Row = record { key = key; doc = doc; texts = texts } in
    record {
      test = grown.test;
      news = grown.news ++ row ∷ [];
      list = ap (λ (l : List Row). l ++ row ∷ []) grown.list ∙ append_assoc (filter grown.test before.list) grown.news (row ∷ []);
      ids = ids-push before.largest rows.largest grown.news row grown.ids above;
    }

one_less : (before : Rows) (key : ℕ) (rows : Rows) → Grown before rows → Grown before (record { list = without_key key rows.list; largest = rows.largest })
one_less before key rows grown =
    let p : Row → Bool = λ row. not (nat_eq row.key key) in
    record {
      test = λ row. grown.test row && p row;
      news = filter p grown.news;
      list = ap (filter p) grown.list ∙ filter-append p (filter grown.test before.list) grown.news
          ∙ ap (λ (l : List Row). l ++ filter p grown.news) (both p grown.test before.list);
      ids = ids-filter p before.largest rows.largest grown.news grown.ids;
    }

-- no row has an id above all of theirs
pub none_above : (doc largest : ℕ) (rows : List Row) → All (λ (row : Row). row.doc ≤ largest) rows → largest < doc → has_doc doc rows ≡ false
none_above doc largest [] below above = refl
none_above doc largest (row ∷ rows) below above =
    let first = All-head (λ (r : Row). r.doc ≤ largest) row rows below in
    ap (λ (b : Bool). b || has_doc doc rows) (ne_eqb row.doc doc (λ same. omega (arith, same, above, first)))
    ∙ none_above doc largest rows (All-tail (λ (r : Row). r.doc ≤ largest) row rows below) above

all_new : (low high largest : ℕ) (others rows : List Row) → All (λ (row : Row). row.doc ≤ largest) others → largest ≤ low → RowsAscend low high rows → rows_not_in others rows ≡ rows
all_new low high largest others [] below from ids = refl
all_new low high largest others (row ∷ rows) below from ids =
    ap (λ (b : Bool). cond (not b) (row ∷ rows_not_in others rows) (rows_not_in others rows)) (none_above row.doc largest others below (omega (arith, from, ids.0)))
    ∙ ap (λ (l : List Row). row ∷ l) (all_new row.doc high largest others rows below (omega (arith, from, ids.0)) ids.1)

either_is : (a b : Bool) → b ≡ true → (a || b) ≡ true
either_is true b e = refl
either_is false b e = e

has_in : (front rows : List Row) (row : Row) → has_doc row.doc (front ++ row ∷ rows) ≡ true
has_in [] rows row = ap (λ (b : Bool). b || has_doc row.doc rows) (eq-eqb row.doc row.doc refl)
has_in (first ∷ front) rows row = either_is (nat_eq first.doc row.doc) (has_doc row.doc (front ++ row ∷ rows)) (has_in front rows row)

none_new : (t : Row → Bool) (front rows : List Row) → rows_not_in (front ++ rows) (filter t rows) ≡ []
none_new t front [] = refl
none_new t front (row ∷ rows) =
    by (t row) (ap (λ (l : List Row). rows_not_in l (filter t rows)) (sym (append_assoc front (row ∷ []) rows)) ∙ none_new t (front ++ row ∷ []) rows)
  where
    by : (b : Bool) → rows_not_in (front ++ row ∷ rows) (filter t rows) ≡ [] → rows_not_in (front ++ row ∷ rows) (cond b (row ∷ filter t rows) (filter t rows)) ≡ []
    by true rest =
        ap (λ (b : Bool). cond (not b) (row ∷ rows_not_in (front ++ row ∷ rows) (filter t rows)) (rows_not_in (front ++ row ∷ rows) (filter t rows))) (has_in front rows row)
        ∙ rest
    by false rest = rest

pub births_are : (before after : Rows) → IsOrdered before → (grown : Grown before after) → rows_not_in before.list after.list ≡ grown.news
births_are before after ordered grown =
    ap (rows_not_in before.list) grown.list
    ∙ filter-append _ (filter grown.test before.list) grown.news
    ∙ ap (λ (l : List Row). l ++ rows_not_in before.list grown.news) (none_new grown.test [] before.list)
    ∙ all_new before.largest after.largest before.largest before.list grown.news ordered.below (omega arith) grown.ids

born : (before after : Rows) → IsOrdered before → Grown before after → RowsAscend before.largest after.largest (rows_not_in before.list after.list)
born before after ordered grown =
    subst (RowsAscend before.largest after.largest) (sym (births_are before after ordered grown)) grown.ids

died : (before after : Rows) → IsOrdered before → All (λ id. id ≤ before.largest) (turn_between before after).deaths
died before after ordered =
    All-map (λ id. id ≤ before.largest) (λ (row : Row). row.doc) (rows_not_in after.list before.list) (All-filter _ (λ (row : Row). row.doc ≤ before.largest) before.list ordered.below)

pub grows : (rows : Rows) (commit : Commit) → Grown rows (rows_after rows commit)
grows rows commit = commit_holds (Grown rows) (one_more rows) (one_less rows) commit rows (begins rows)

turns_go_on : (commits : List Commit) (rows : Rows) → IsOrdered rows → AreTurns rows.largest (turns_from rows commits)
turns_go_on [] rows ordered = tt
turns_go_on (commit ∷ commits) rows ordered =
    let after = rows_after rows commit in
    (born rows after ordered (grows rows commit), died rows after ordered, turns_go_on commits after (commit_ordered commit rows ordered))

-- the turns of a database's commits
pub turns_are : (commits : List Commit) → AreTurns 0 (turns_from no_rows commits)
turns_are commits = turns_go_on commits no_rows none_ordered
