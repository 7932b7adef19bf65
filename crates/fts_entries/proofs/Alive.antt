-- The rows of a batch: of those that were born in some turns, the ones that no turn has taken away.
use Rattle.std.proofs.Common.{◌≡◌, ◌≤◌, ℕ, zero, suc, Bool, true, false, cond, not, ◌||◌, filter, List, [], ◌∷◌, ◌++◌, take, drop, nat_eq, refl, sym, ap, subst, ◌∙◌, arith}
use Rattle.std.specs.Prelude.{All, fold}
use Rattle.std.proofs.lemmas.Bool.{false≢true}
use Rattle.std.proofs.lemmas.List.Folds.{list_any-append}
use Rattle.std.specs.List.{AllByRecursion, list_any}
use Rattle.std.proofs.lemmas.List.{take-append-drop}
use Rattle.std.proofs.lemmas.List.Elements.{All-filter, All-from_recursion, recursion_from_All, filter_passes}
use Rattle.fts_types.specs.Row.{Row}
use Rattle.fts_commits.specs.Commit.{Rows, no_rows}
use Rattle.fts_commits.specs.Turn.{Turn, RowsAscend, AreTurns, births_of, deaths_of, rows_but, rows_by}
use Rattle.fts_entries.specs.Batch.{largest_after, alive_of}
use Rattle.fts_entries.proofs.Filters.{leads, all_joined, unfiltered}
use Rattle.fts_entries.proofs.Turns.{two_parts, births_ascend}

rows_lower : (low middle high : ℕ) (rows : List Row) → low ≤ middle → RowsAscend middle high rows → RowsAscend low high rows
rows_lower low middle high [] less ids = omega (arith, less, ids)
rows_lower low middle high (row ∷ rows) less ids = (omega (arith, less, ids.0), ids.1)

rows_left : (test : Row → Bool) (low high : ℕ) (rows : List Row) → RowsAscend low high rows → RowsAscend low high (filter test rows)
rows_left test low high [] ids = ids
rows_left test low high (row ∷ rows) ids = by (test row) (rows_left test row.doc high rows ids.1)
  where
    by : (b : Bool) → RowsAscend row.doc high (filter test rows) → RowsAscend low high (cond b (row ∷ filter test rows) (filter test rows))
    by true rest = (ids.0, rest)
    by false rest = rows_lower low row.doc high (filter test rows) (omega (arith, ids.0)) rest

abbrev is_left : List Turn → Row → Bool
is_left turns row = not (list_any (λ id. nat_eq id row.doc) (deaths_of turns))

-- ---- parts of a list

first : (P : Row → Type 0) (xs ys : List Row) → AllByRecursion P (xs ++ ys) → AllByRecursion P xs
first P [] ys h = tt
first P (x ∷ xs) ys h = (h.0, first P xs ys h.1)

second : (P : Row → Type 0) (xs ys : List Row) → AllByRecursion P (xs ++ ys) → AllByRecursion P ys
second P [] ys h = h
second P (x ∷ xs) ys h = second P xs ys h.1

-- ---- who is not taken away is among the rows that are left

not_either : (a b : Bool) → not (a || b) ≡ true → (not a ≡ true) × (not b ≡ true)
not_either true b e = absurd (false≢true e)
not_either false b e = (refl, e)

-- of one turn more
left_both : (turn : Turn) (turns : List Turn) (row : Row) → is_left (turn ∷ turns) row ≡ true → (not (list_any (λ id. nat_eq id row.doc) turn.deaths) ≡ true) × (is_left turns row ≡ true)
left_both turn turns row left =
    not_either (list_any (λ id. nat_eq id row.doc) turn.deaths) (list_any (λ id. nat_eq id row.doc) (deaths_of turns))
    (sym (ap not (list_any-append (λ id. nat_eq id row.doc) turn.deaths (deaths_of turns))) ∙ left)

all_left : (P : Row → Type 0) (turns : List Turn) (rows : Rows) → AllByRecursion P (fold rows_by rows turns).list
    → AllByRecursion (λ row. is_left turns row ≡ true → P row) rows.list × AllByRecursion (λ row. is_left turns row ≡ true → P row) (births_of turns)
all_left P [] rows h = (leads P (λ row. is_left [] row ≡ true → P row) rows.list (λ row is left. is) h, tt)
all_left P (turn ∷ turns) rows h =
    let later = all_left P turns (rows_by rows turn) h in
    let Q : Row → Type 0 = λ row. is_left turns row ≡ true → P row in
    let R : Row → Type 0 = λ row. is_left (turn ∷ turns) row ≡ true → P row in
    let stays : Row → Bool = λ row. not (list_any (λ id. nat_eq id row.doc) turn.deaths) in
    let old = first Q (rows_but turn.deaths rows.list) turn.births later.0 in
    let new = second Q (rows_but turn.deaths rows.list) turn.births later.0 in (
      leads (λ row. stays row ≡ true → Q row) R rows.list (λ row is left. let both = left_both turn turns row left in is both.0 both.1) (unfiltered Q stays rows.list old),
      all_joined R turn.births (births_of turns)
          (leads Q R turn.births (λ row is left. is (left_both turn turns row left).1) new)
          (leads Q R (births_of turns) (λ row is left. is (left_both turn turns row left).1) later.1),
    )

-- of n turns behind the first m
module _ (turns : List Turn) (m n : ℕ) where
  abbrev front : List Turn
  front = take n (drop m turns)

  abbrev low : ℕ
  low = largest_after 0 (take m turns)

  -- their ids ascend
  pub alive_ascend : AreTurns 0 turns → RowsAscend low (largest_after low front) (alive_of turns front)
  alive_ascend are =
      let parts = two_parts 0 (take m turns) (drop m turns) (subst (AreTurns 0) (sym (take-append-drop m turns)) are) in
      let halves = two_parts low front (drop n (drop m turns)) (subst (AreTurns low) (sym (take-append-drop n (drop m turns))) parts.of_rest) in
      rows_left (is_left turns) low (largest_after low front) (births_of front) (births_ascend low front halves.of_front)

  module _ (P : Row → Type 0) where
    dropped : (m : ℕ) (ts : List Turn) → AllByRecursion P (births_of ts) → AllByRecursion P (births_of (drop m ts))
    dropped zero ts h = h
    dropped (suc m) [] h = h
    dropped (suc m) (t ∷ ts) h = dropped m ts (second P t.births (births_of ts) h)

    taken : (n : ℕ) (ts : List Turn) → AllByRecursion P (births_of ts) → AllByRecursion P (births_of (take n ts))
    taken zero ts h = tt
    taken (suc n) [] h = tt
    taken (suc n) (t ∷ ts) h = all_joined P t.births (births_of (take n ts)) (first P t.births (births_of ts) h) (taken n ts (second P t.births (births_of ts) h))

    -- what holds of all that were born holds of them
    pub alive_each : All P (births_of turns) → All P (alive_of turns front)
    alive_each all =
        All-filter (is_left turns) P (births_of front)
        (All-from_recursion P (births_of front) (taken n (drop m turns) (dropped m turns (recursion_from_All P (births_of turns) all))))

  -- and what holds of the rows that are left behind all turns
  pub alive_among : (P : Row → Type 0) → All P (fold rows_by no_rows turns).list → All P (alive_of turns front)
  alive_among P all =
      let R : Row → Type 0 = λ row. is_left turns row ≡ true → P row in
      let born : All R (births_of turns) = All-from_recursion R (births_of turns) (all_left P turns no_rows (recursion_from_All P (fold rows_by no_rows turns).list all)).1 in
      let alive : All R (alive_of turns front) = alive_each R born in
      let pass = filter_passes (is_left turns) (births_of front) in
      λ k d less. alive k d less (pass k d less)
