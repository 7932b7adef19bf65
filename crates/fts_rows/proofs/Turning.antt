-- The turn of a commit, by who goes and who comes.
use Rattle.std.proofs.Common.{◌≡◌, ℕ, ◌+◌, ◌<◌, ◌≤◌, Bool, true, false, cond, ◌||◌, ◌&&◌, not, filter, length, List, [], ◌∷◌, ◌++◌, nat_eq, refl, sym, ap, ◌∙◌, arith, append_assoc, true≢false}
use Rattle.std.proofs.lemmas.Bool.{ne_eqb, eq-eqb, eqb-true}
use Rattle.std.proofs.lemmas.List.{length-map}
use Rattle.std.proofs.lemmas.List.Elements.{filter-append}
use Rattle.std.proofs.lemmas.List.Filters.{length-filter_both}
use Rattle.std.proofs.lemmas.List.Folds.{list_any-append}
use Rattle.std.proofs.lemmas.Map.Views.{any-filter_same}
use Rattle.std.specs.Cmp.{nat_eq_equiv}
use Rattle.fts_ids.specs.Ids.{has, AscendFrom, Ascend}
use Rattle.fts_ids.proofs.Ascending.{same_ids}
use Rattle.fts_types.specs.Row.{Row}
use Rattle.fts_commits.specs.Commit.{Rows}
use Rattle.fts_commits.specs.Turn.{Turn, RowsAscend, has_doc, rows_not_in, rows_but}
use Rattle.fts_rows.specs.Plan.{Fits, IsTurnOf, is_among}
use Rattle.fts_rows.proofs.Ids.{ids-bounds, ids-filter}
use Rattle.fts_rows.proofs.Keys.{docs}

-- no row has an id above all of theirs
none_above : (doc low high : ℕ) (rows : List Row) → RowsAscend low high rows → high < doc → has_doc doc rows ≡ false
none_above doc low high [] ids above = refl
none_above doc low high (row ∷ rows) ids above =
    ap (λ (b : Bool). b || has_doc doc rows) (ne_eqb row.doc doc (λ same. let up = ids-bounds row.doc high rows ids.1 in omega (arith, same, above, up)))
    ∙ none_above doc row.doc high rows ids.1 above

-- and none one that is not above all bounds
none_under : (doc low high : ℕ) (rows : List Row) → RowsAscend low high rows → doc ≤ low → has_doc doc rows ≡ false
none_under doc low high [] ids below = refl
none_under doc low high (row ∷ rows) ids below =
    ap (λ (b : Bool). b || has_doc doc rows) (ne_eqb row.doc doc (λ same. omega (arith, same, ids.0, below)))
    ∙ none_under doc row.doc high rows ids.1 (omega (arith, ids.0, below))

-- an id of a row is at most the bound
has_below : (doc low high : ℕ) (rows : List Row) → RowsAscend low high rows → has_doc doc rows ≡ true → doc ≤ high
has_below doc low high [] ids has = absurd cc
has_below doc low high (row ∷ rows) ids has = by (nat_eq row.doc doc) refl (has_below doc row.doc high rows ids.1) has
  where
    by : (b : Bool) → nat_eq row.doc doc ≡ b → (has_doc doc rows ≡ true → doc ≤ high) → (b || has_doc doc rows) ≡ true → doc ≤ high
    by true is rest e = (let same = eqb-true row.doc doc is in let up = ids-bounds row.doc high rows ids.1 in omega (arith, same, up))
    by false is rest e = rest e

-- rows with ids above all others' are not among these
all_new : (low last high : ℕ) (others rows : List Row) → RowsAscend 0 last others → last ≤ low → RowsAscend low high rows → rows_not_in others rows ≡ rows
all_new low last high others [] old from ids = refl
all_new low last high others (row ∷ rows) old from ids =
    ap (λ (b : Bool). cond (not b) (row ∷ rows_not_in others rows) (rows_not_in others rows)) (none_above row.doc 0 last others old (omega (arith, from, ids.0)))
    ∙ ap (λ (l : List Row). row ∷ l) (all_new row.doc last high others rows old (omega (arith, from, ids.0)) ids.1)

either_is : (a b : Bool) → b ≡ true → (a || b) ≡ true
either_is true b e = refl
either_is false b e = e

has_in : (front rows : List Row) (row : Row) → has_doc row.doc (front ++ row ∷ rows) ≡ true
has_in [] rows row = ap (λ (b : Bool). b || has_doc row.doc rows) (eq-eqb row.doc row.doc refl)
has_in (first ∷ front) rows row = either_is (nat_eq first.doc row.doc) (has_doc row.doc (front ++ row ∷ rows)) (has_in front rows row)

-- some of the rows are among them
pub none_new : (t : Row → Bool) (front rows : List Row) → rows_not_in (front ++ rows) (filter t rows) ≡ []
none_new t front [] = refl
none_new t front (row ∷ rows) =
    by (t row) (ap (λ (l : List Row). rows_not_in l (filter t rows)) (sym (append_assoc front (row ∷ []) rows)) ∙ none_new t (front ++ row ∷ []) rows)
  where
    by : (b : Bool) → rows_not_in (front ++ row ∷ rows) (filter t rows) ≡ [] → rows_not_in (front ++ row ∷ rows) (cond b (row ∷ filter t rows) (filter t rows)) ≡ []
    by true rest =
        ap (λ (b : Bool). cond (not b) (row ∷ rows_not_in (front ++ row ∷ rows) (filter t rows)) (rows_not_in (front ++ row ∷ rows) (filter t rows))) (has_in front rows row)
        ∙ rest
    by false rest = rest

-- ---- ids as sets

has_among : (ids : List ℕ) (q : ℕ) → has ids q ≡ is_among q ids
has_among [] q = refl
has_among (id ∷ ids) q = ap (λ (b : Bool). b || has ids q) (nat_eq_equiv.symm q id) ∙ ap (λ (b : Bool). nat_eq id q || b) (has_among ids q)

has_docs : (rows : List Row) (q : ℕ) → has (docs rows) q ≡ has_doc q rows
has_docs [] q = refl
has_docs (row ∷ rows) q = ap (λ (b : Bool). b || has (docs rows) q) (nat_eq_equiv.symm q row.doc) ∙ ap (λ (b : Bool). nat_eq row.doc q || b) (has_docs rows q)

docs_ascend : (low high : ℕ) (rows : List Row) → RowsAscend low high rows → AscendFrom (low + 1) (docs rows)
docs_ascend low high [] ids = tt
docs_ascend low high (row ∷ rows) ids = (omega (arith, ids.0), docs_ascend row.doc high rows ids.1)

-- ids that ascend are those of the rows that pass a test, where the test says which of the rows' ids they are
listed : (p : ℕ → Bool) (high : ℕ) (rows : List Row) (ids : List ℕ) → RowsAscend 0 high rows → Ascend ids → ((q : ℕ) → is_among q ids ≡ (p q && has_doc q rows))
    → ids ≡ docs (filter (λ row. p row.doc) rows)
listed p high rows ids up ascend same =
    same_ids 0 1 ids (docs (filter (λ row. p row.doc) rows)) ascend (docs_ascend 0 high (filter (λ row. p row.doc) rows) (ids-filter (λ row. p row.doc) 0 high rows up))
    (λ q. has_among ids q ∙ same q
    ∙ sym (has_docs (filter (λ row. p row.doc) rows) q
    ∙ any-filter_same (λ (row : Row). nat_eq row.doc q) (λ row. p row.doc) (p q) (λ row e. ap p (eqb-true row.doc q e)) rows))

absorbed : (a b : Bool) → (a ≡ true → b ≡ true) → a ≡ (a && b)
absorbed true b so = sym (so refl)
absorbed false b so = refl

left_out : (a b c : Bool) → (a ≡ true → b ≡ true) → (b ≡ true → c ≡ false) → a ≡ (not ((not a && b) || c) && b)
left_out true true c so out = sym (ap (λ (x : Bool). not x && true) (out refl))
left_out true false c so out = absurd (true≢false (sym (so refl)))
left_out false true c so out = refl
left_out false false c so out = and_false (not c)
  where
    and_false : (b : Bool) → false ≡ (b && false)
    and_false true = refl
    and_false false = refl

module _ (rows : Rows) (turn : Turn) (count : ℕ) (old : RowsAscend 0 rows.largest rows.list) (fits : Fits rows turn count) (ascend : Ascend turn.deaths) where
  abbrev after : List Row
  after = rows_but turn.deaths rows.list ++ turn.births

  unborn : (q : ℕ) → has_doc q rows.list ≡ true → has_doc q turn.births ≡ false
  unborn q alive = none_under q rows.largest turn.largest turn.births fits.ids (has_below q 0 rows.largest rows.list old alive)

  has_after : (q : ℕ) → has_doc q after ≡ ((not (is_among q turn.deaths) && has_doc q rows.list) || has_doc q turn.births)
  has_after q =
      list_any-append (λ (row : Row). nat_eq row.doc q) (rows_but turn.deaths rows.list) turn.births
      ∙ ap (λ (b : Bool). b || has_doc q turn.births)
      (any-filter_same (λ (row : Row). nat_eq row.doc q) (λ row. not (is_among row.doc turn.deaths)) (not (is_among q turn.deaths)) (λ row e. ap (λ (d : ℕ). not (is_among d turn.deaths)) (eqb-true row.doc q e)) rows.list)

  dead : turn.deaths ≡ docs (rows_not_in after rows.list)
  dead =
      listed (λ q. not (has_doc q after)) rows.largest rows.list turn.deaths old ascend
      (λ q. left_out (is_among q turn.deaths) (has_doc q rows.list) (has_doc q turn.births) (fits.alive q) (unborn q)
      ∙ ap (λ (b : Bool). not b && has_doc q rows.list) (sym (has_after q)))

  born : rows_not_in rows.list after ≡ turn.births
  born =
      filter-append (λ row. not (has_doc row.doc rows.list)) (rows_but turn.deaths rows.list) turn.births
      ∙ ap (λ (l : List Row). l ++ rows_not_in rows.list turn.births) (none_new (λ row. not (is_among row.doc turn.deaths)) [] rows.list)
      ∙ all_new rows.largest rows.largest turn.largest rows.list turn.births old (omega arith) fits.ids

  counted : length (rows_but turn.deaths rows.list) + length turn.deaths ≡ length rows.list
  counted =
      let gone = filter (λ row. is_among row.doc turn.deaths) rows.list in
      let same : turn.deaths ≡ docs gone = listed (λ q. is_among q turn.deaths) rows.largest rows.list turn.deaths old ascend (λ q. absorbed (is_among q turn.deaths) (has_doc q rows.list) (fits.alive q)) in
      let many : length turn.deaths ≡ length gone = ap length same ∙ length-map gone (λ (row : Row). row.doc) in
      let both = length-filter_both (λ row. is_among row.doc turn.deaths) (λ row. not (is_among row.doc turn.deaths)) (λ row. refl) rows.list in
      omega (arith, many, both)

  -- a turn that fits rows is the one between them and those that it leads to
  pub turned : IsTurnOf rows turn
  turned = record {
    between = λ i. record { births = sym born i; deaths = dead i; largest = turn.largest };
    counted = counted;
  }
