-- Ids of rows that die, and the rows that stay.
use Rattle.std.proofs.Common.{◌≡◌, ℕ, ◌+◌, ◌<◌, ◌≤◌, suc, Bool, true, false, cond, not, ◌||◌, filter, List, [], ◌∷◌, ◌++◌, nat_eq, get_or, length, refl, sym, ap, subst, ◌∙◌, arith, ⊎_elim}
use Rattle.std.proofs.lemmas.Bool.{cases_lt, cases_eq, ne_eqb, eq-eqb}
use Rattle.std.proofs.lemmas.List.Elements.{filter-append}
use Rattle.std.proofs.lemmas.Map.Keys.{sorted_tail, below_from_sorted}
use Rattle.std.specs.List.{list_any}
use Rattle.std.specs.List.Sorted.{IsStrictlySortedBy}
use Rattle.std.specs.declared.cmp.Ordering.{Ordering}
use Rattle.std.specs.declared.cmp.Ordering.TheVariants.{Less, Equal, Greater}
use Rattle.std.specs.Ordering.{nat_cmp, match_ordering}
use Rattle.std.specs.Cmp.{nat_cmp_is, nat_eq_equiv}
use Rattle.std.specs.BTreeMap.{is_at}
use Rattle.fts_ids.specs.Ids.{AscendFrom}
use Rattle.fts_types.specs.Row.{Row}
use Rattle.fts_commits.specs.Commit.{with_key, without_key}
use Rattle.fts_commits.specs.Turn.{RowsAscend, rows_but}
use Rattle.fts_rows.specs.Plan.{is_among, with_death}
use Rattle.fts_rows.specs.Rows.{without_id}
use Rattle.fts_rows.proofs.Keys.{docs, none_go, led_out}

-- the three ways in which two numbers compare
by_order : (x y : ℕ) (P : Ordering → Type 0) → (x < y → P Less) → (x ≡ y → P Equal) → (y < x → P Greater) → P (nat_cmp x y)
by_order x y P less equal greater =
    ⊎_elim
    (λ h. subst P (nat_cmp_is x y Less h) (less h))
    (λ h. ⊎_elim
    (λ e. subst P (nat_cmp_is x y Equal e) (equal e))
    (λ n. let above : y < x = omega (arith, n) in subst P (nat_cmp_is x y Greater above) (greater above))
    (cases_eq x y))
    (cases_lt x y)

at_is : (a b : ℕ) → is_at (nat_cmp a) b ≡ nat_eq b a
at_is a b =
    by_order a b (λ o. is_at (λ (k : ℕ). o) b ≡ nat_eq b a)
    (λ lt. sym (ne_eqb b a (λ e. omega (arith, lt, e))))
    (λ e. sym (eq-eqb b a (sym e)))
    (λ gt. sym (ne_eqb b a (λ e. omega (arith, gt, e))))

-- what a set of ids finds
pub found_among : (doc : ℕ) (ids : List ℕ) → list_any (is_at (nat_cmp doc)) ids ≡ is_among doc ids
found_among doc [] = refl
found_among doc (id ∷ ids) =
    ap (λ (b : Bool). b || list_any (is_at (nat_cmp doc)) ids) (at_is doc id) ∙ ap (λ (b : Bool). nat_eq id doc || b) (found_among doc ids)

-- the ids of a set ascend
pub sorted_ascend : (low : ℕ) (ids : List ℕ) → IsStrictlySortedBy nat_cmp ids → ((k : ℕ) (d : ℕ) → k < length ids → low ≤ get_or ids k d) → AscendFrom low ids
sorted_ascend low [] sorted above = tt
sorted_ascend low (id ∷ ids) sorted above = (
  above 0 0 (omega arith),
  sorted_ascend (id + 1) ids (sorted_tail nat_cmp id ids sorted)
      (λ k d lt. let less : id < get_or ids k d = below_from_sorted (id ∷ ids) 0 (suc k) d sorted (omega arith) (omega (arith, lt)) in omega (arith, less)),
)

or_swap : (a b c : Bool) → (a || (b || c)) ≡ (b || (a || c))
or_swap true true c = refl
or_swap true false c = refl
or_swap false true c = refl
or_swap false false c = refl

or_again : (a c : Bool) → (a || c) ≡ (a || (a || c))
or_again true c = refl
or_again false c = refl

-- one more death
pub among_death : (doc : ℕ) (deaths : List ℕ) (q : ℕ) → is_among q (with_death doc deaths) ≡ (nat_eq doc q || is_among q deaths)
among_death doc [] q = refl
among_death doc (id ∷ ids) q =
    by_order doc id (λ o. is_among q (match_ordering o (doc ∷ id ∷ ids) (id ∷ ids) (id ∷ with_death doc ids)) ≡ (nat_eq doc q || is_among q (id ∷ ids)))
    (λ lt. refl)
    (λ e. or_again (nat_eq id q) (is_among q ids) ∙ ap (λ z. nat_eq z q || (nat_eq id q || is_among q ids)) (sym e))
    (λ gt. ap (λ b. nat_eq id q || b) (among_death doc ids q) ∙ or_swap (nat_eq id q) (nat_eq doc q) (is_among q ids))

but_death : (doc : ℕ) (deaths : List ℕ) (rows : List Row) → rows_but (with_death doc deaths) rows ≡ rows_but deaths (without_id doc rows)
but_death doc deaths [] = refl
but_death doc deaths (row ∷ rows) =
    ap (λ (b : Bool). cond (not b) (row ∷ rows_but (with_death doc deaths) rows) (rows_but (with_death doc deaths) rows))
    (among_death doc deaths row.doc ∙ ap (λ (b : Bool). b || is_among row.doc deaths) (nat_eq_equiv.symm doc row.doc))
    ∙ by (nat_eq row.doc doc) (but_death doc deaths rows)
  where
    by : (b : Bool) → rows_but (with_death doc deaths) rows ≡ rows_but deaths (without_id doc rows)
        → cond (not (b || is_among row.doc deaths)) (row ∷ rows_but (with_death doc deaths) rows) (rows_but (with_death doc deaths) rows)
        ≡ rows_but deaths (cond (not b) (row ∷ without_id doc rows) (without_id doc rows))
    by true rest = rest
    by false rest = ap (λ (l : List Row). cond (not (is_among row.doc deaths)) (row ∷ l) l) rest

-- nobody dies
pub but_none : (rows : List Row) → rows_but [] rows ≡ rows
but_none [] = refl
but_none (row ∷ rows) = ap (λ (l : List Row). row ∷ l) (but_none rows)

-- the first of the dead goes first
pub but_more : (doc : ℕ) (deaths : List ℕ) (rows : List Row) → rows_but deaths (without_id doc rows) ≡ rows_but (doc ∷ deaths) rows
but_more doc deaths [] = refl
but_more doc deaths (row ∷ rows) =
    by (nat_eq row.doc doc) (but_more doc deaths rows)
    ∙ ap (λ (b : Bool). cond (not (b || is_among row.doc deaths)) (row ∷ rows_but (doc ∷ deaths) rows) (rows_but (doc ∷ deaths) rows)) (nat_eq_equiv.symm row.doc doc)
  where
    by : (b : Bool) → rows_but deaths (without_id doc rows) ≡ rows_but (doc ∷ deaths) rows
        → rows_but deaths (cond (not b) (row ∷ without_id doc rows) (without_id doc rows))
        ≡ cond (not (b || is_among row.doc deaths)) (row ∷ rows_but (doc ∷ deaths) rows) (rows_but (doc ∷ deaths) rows)
    by true rest = rest
    by false rest = ap (λ (l : List Row). cond (not (is_among row.doc deaths)) (row ∷ l) l) rest

-- two filters pass the same in either order
pub filters_swap : (p q : Row → Bool) (rows : List Row) → filter p (filter q rows) ≡ filter q (filter p rows)
filters_swap p q [] = refl
filters_swap p q (row ∷ rows) = by (p row) (q row) refl refl (filters_swap p q rows)
  where
    by : (a b : Bool) → p row ≡ a → q row ≡ b → filter p (filter q rows) ≡ filter q (filter p rows)
        → filter p (cond (q row) (row ∷ filter q rows) (filter q rows)) ≡ filter q (cond (p row) (row ∷ filter p rows) (filter p rows))
    by true true e f rest = rw f (rw e (rw f (ap (λ (l : List Row). row ∷ l) rest)))
    by true false e f rest = rw f (rw e (rw f rest))
    by false true e f rest = rw f (rw e rest)
    by false false e f rest = rw f (rw e rest)

-- the rows of a turn without those of a key that no row before it has
pub none_taken : (key : ℕ) (rows : List Row) (deaths : List ℕ) (births : List Row) → with_key key rows ≡ []
    → rows_but deaths rows ++ without_key key births ≡ without_key key (rows_but deaths rows ++ births)
none_taken key rows deaths births none =
    let stays : without_key key (rows_but deaths rows) ≡ rows_but deaths rows =
    filters_swap (λ row. not (nat_eq row.key key)) (λ row. not (is_among row.doc deaths)) rows ∙ ap (rows_but deaths) (none_go key rows (ap docs none)) in
    ap (λ (l : List Row). l ++ without_key key births) (sym stays) ∙ sym (filter-append (λ row. not (nat_eq row.key key)) (rows_but deaths rows) births)

-- and of one that the row has that dies
pub one_taken : (key : ℕ) (rows : List Row) (high : ℕ) (deaths : List ℕ) (births : List Row) (row : Row) → RowsAscend 0 high rows → with_key key rows ≡ row ∷ []
    → rows_but (with_death row.doc deaths) rows ++ without_key key births ≡ without_key key (rows_but deaths rows ++ births)
one_taken key rows high deaths births row ids one =
    let goes : rows_but (with_death row.doc deaths) rows ≡ without_key key (rows_but deaths rows) =
    but_death row.doc deaths rows ∙ ap (rows_but deaths) (led_out key row.doc 0 high rows ids (ap docs one))
    ∙ filters_swap (λ r. not (is_among r.doc deaths)) (λ r. not (nat_eq r.key key)) rows in
    ap (λ (l : List Row). l ++ without_key key births) goes ∙ sym (filter-append (λ r. not (nat_eq r.key key)) (rows_but deaths rows) births)
