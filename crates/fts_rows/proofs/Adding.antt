-- Turns with one more change.
use Rattle.std.proofs.Common.{◌≡◌, ℕ, ◌+◌, ◌<◌, ◌≤◌, Bool, true, false, cond, ◌||◌, not, List, [], ◌∷◌, ◌++◌, nat_eq, length, refl, sym, ap, subst, ◌∙◌, arith, append_assoc, append-nil, length-append}
use Rattle.std.proofs.lemmas.Bool.{eqb-true, eq-eqb}
use Rattle.std.proofs.lemmas.List.Elements.{filter-append}
use Rattle.std.specs.Prelude.{MatchOption, Option, Some, None}
use Rattle.std.specs.Borrow.{Bor}
use Rattle.fts_types.specs.Row.{Row, row_of}
use Rattle.fts_types.specs.declared.row.Row.{Row as HeldRow}
use Rattle.fts_commits.specs.Commit.{Rows, with_key, without_key}
use Rattle.fts_commits.specs.Turn.{Turn, RowsAscend, has_doc, rows_but, rows_by}
use Rattle.fts_rows.specs.Plan.{Fits, HaveKeysOnce, is_among, with_death}
use Rattle.fts_rows.proofs.Ids.{ids-push, ids-filter}
use Rattle.fts_rows.proofs.Deaths.{among_death, but_none, filters_swap, none_taken, one_taken}
use Rattle.fts_rows.proofs.Once.{once_without, once_more, filter_fewer}

-- nothing has changed
pub fits-none : (rows : Rows) → HaveKeysOnce rows.list → Fits rows (record { births = []; deaths = []; largest = rows.largest }) 0
fits-none rows once = record {
  keys = subst HaveKeysOnce (sym (append-nil (rows_but [] rows.list) ∙ but_none rows.list)) once;
  ids = omega arith;
  alive = λ doc dead. absurd cc;
  few = omega arith;
}

pub leads-none : (rows : Rows) → rows_by rows (record { births = []; deaths = []; largest = rows.largest }) ≡ rows
leads-none rows = ap (λ (l : List Row). let r : Rows = record { list = l; largest = rows.largest } in r) (append-nil (rows_but [] rows.list) ∙ but_none rows.list)

-- the row of a key that stands in a turn's rows
pub of_births : (key : ℕ) (rows : List Row) (turn : Turn) → with_key key rows ≡ [] → with_key key (rows_but turn.deaths rows ++ turn.births) ≡ with_key key turn.births
of_births key rows turn none =
    filter-append (λ (row : Row). nat_eq row.key key) (rows_but turn.deaths rows) turn.births
    ∙ ap (λ (l : List Row). l ++ with_key key turn.births) (filters_swap (λ (row : Row). nat_eq row.key key) (λ row. not (is_among row.doc turn.deaths)) rows ∙ ap (rows_but turn.deaths) none)

pub of_rows : (key : ℕ) (rows : List Row) (turn : Turn) (row : Row) (gone : Bool) → with_key key rows ≡ row ∷ [] → is_among row.doc turn.deaths ≡ gone
    → with_key key (rows_but turn.deaths rows ++ turn.births) ≡ cond gone [] (row ∷ []) ++ with_key key turn.births
of_rows key rows turn row gone one is =
    filter-append (λ (r : Row). nat_eq r.key key) (rows_but turn.deaths rows) turn.births
    ∙ ap (λ (l : List Row). l ++ with_key key turn.births)
    (filters_swap (λ (r : Row). nat_eq r.key key) (λ r. not (is_among r.doc turn.deaths)) rows ∙ ap (rows_but turn.deaths) one ∙ ap (λ (b : Bool). cond (not b) (row ∷ []) []) is ∙ by gone)
  where
    by : (b : Bool) → cond (not b) (row ∷ []) [] ≡ cond b [] (row ∷ [])
    by true = refl
    by false = refl

-- a row that is found among those that came is found among all, where these have the same rows of the key
pub found_in : (news all : List Row) (found : Option (Bor HeldRow)) → all ≡ news → MatchOption found (news ≡ []) (λ row. news ≡ row_of row.now ∷ [])
    → MatchOption found (all ≡ []) (λ row. (others : List Row) × (all ≡ row_of row.now ∷ others))
found_in news all None same none = same ∙ none
found_in news all (Some row) same one = ([], same ∙ one)

-- a row that a key has is one of the rows
has_of : (key : ℕ) (rows : List Row) (row : Row) → with_key key rows ≡ row ∷ [] → has_doc row.doc rows ≡ true
has_of key [] row one = absurd (omega (arith, ap length one))
has_of key (first ∷ rows) row one = by (nat_eq first.key key) (has_of key rows row) one
  where
    either : (a b : Bool) → b ≡ true → (a || b) ≡ true
    either true b e = refl
    either false b e = e

    by : (b : Bool) → (with_key key rows ≡ row ∷ [] → has_doc row.doc rows ≡ true) → cond b (first ∷ with_key key rows) (with_key key rows) ≡ row ∷ [] → has_doc row.doc (first ∷ rows) ≡ true
    by true rest e = (let same : first ≡ row = cc in ap (λ (b : Bool). b || has_doc row.doc rows) (eq_self first row same))
      where
        eq_self : (a b : Row) → a ≡ b → nat_eq a.doc b.doc ≡ true
        eq_self a b same = subst (λ (r : Row). nat_eq a.doc r.doc ≡ true) same (own a.doc)
          where
            own : (n : ℕ) → nat_eq n n ≡ true
            own n = eq-eqb n n refl
    by false rest e = either (nat_eq first.doc row.doc) (has_doc row.doc rows) (rest e)

module _ (rows : Rows) (old : Turn) (key count : ℕ) where
  fits-taken : (new : Turn) → new.births ≡ without_key key old.births → new.largest ≡ old.largest → ((doc : ℕ) → is_among doc new.deaths ≡ true → has_doc doc rows.list ≡ true)
      → rows_but new.deaths rows.list ++ new.births ≡ without_key key (rows_but old.deaths rows.list ++ old.births) → Fits rows old count → Fits rows new count
  fits-taken new births largest alive leads fits = record {
    keys = subst HaveKeysOnce (sym leads) (once_without key (rows_but old.deaths rows.list ++ old.births) fits.keys);
    ids = subst (λ (l : List Row). RowsAscend rows.largest new.largest l) (sym births)
        (subst (λ (n : ℕ). RowsAscend rows.largest n (without_key key old.births)) (sym largest) (ids-filter (λ row. not (nat_eq row.key key)) rows.largest old.largest old.births fits.ids));
    alive = alive;
    few = let fewer = filter_fewer (λ row. not (nat_eq row.key key)) old.births in let few = fits.few in omega (arith, fewer, few, ap length births);
  }

  -- without the row of a key that the rows have not
  pub fits-none_taken : with_key key rows.list ≡ [] → Fits rows old count → Fits rows (record { births = without_key key old.births; deaths = old.deaths; largest = old.largest }) count
  fits-none_taken none fits =
      fits-taken (record { births = without_key key old.births; deaths = old.deaths; largest = old.largest }) refl refl fits.alive (none_taken key rows.list old.deaths old.births none) fits

  -- and of one that they have
  pub fits-one_taken : (row : Row) → RowsAscend 0 rows.largest rows.list → with_key key rows.list ≡ row ∷ [] → Fits rows old count
      → Fits rows (record { births = without_key key old.births; deaths = with_death row.doc old.deaths; largest = old.largest }) count
  fits-one_taken row ids one fits =
      fits-taken (record { births = without_key key old.births; deaths = with_death row.doc old.deaths; largest = old.largest }) refl refl
      (λ doc dead. alive doc (nat_eq row.doc doc) refl (sym (among_death row.doc old.deaths doc) ∙ dead))
      (one_taken key rows.list rows.largest old.deaths old.births row ids one) fits
    where
      alive : (doc : ℕ) (b : Bool) → nat_eq row.doc doc ≡ b → (b || is_among doc old.deaths) ≡ true → has_doc doc rows.list ≡ true
      alive doc true is e = subst (λ (d : ℕ). has_doc d rows.list ≡ true) (eqb-true row.doc doc is) (has_of key rows.list row one)
      alive doc false is e = fits.alive doc e

-- what the rows are then
pub leads-none_taken : (rows : Rows) (old : Turn) (key : ℕ) → with_key key rows.list ≡ []
    → rows_by rows (record { births = without_key key old.births; deaths = old.deaths; largest = old.largest }) ≡ record { list = without_key key (rows_by rows old).list; largest = old.largest }
leads-none_taken rows old key none =
    ap (λ (l : List Row). let r : Rows = record { list = l; largest = old.largest } in r) (none_taken key rows.list old.deaths old.births none)

pub leads-one_taken : (rows : Rows) (old : Turn) (key : ℕ) (row : Row) → RowsAscend 0 rows.largest rows.list → with_key key rows.list ≡ row ∷ []
    → rows_by rows (record { births = without_key key old.births; deaths = with_death row.doc old.deaths; largest = old.largest }) ≡ record { list = without_key key (rows_by rows old).list; largest = old.largest }
leads-one_taken rows old key row ids one =
    ap (λ (l : List Row). let r : Rows = record { list = l; largest = old.largest } in r) (one_taken key rows.list rows.largest old.deaths old.births row ids one)

pub fits-push : (rows : Rows) (old : Turn) (row : Row) (count : ℕ) → with_key row.key (rows_by rows old).list ≡ [] → old.largest < row.doc → Fits rows old count
    → Fits rows (record { births = old.births ++ row ∷ []; deaths = old.deaths; largest = row.doc }) (count + 1)
fits-push rows old row count none above fits =
    let few : length (old.births ++ row ∷ []) ≤ count + 1 = grind (arith, length-append, fits.few) in
    record {
      keys = subst HaveKeysOnce (append_assoc (rows_but old.deaths rows.list) old.births (row ∷ [])) (once_more (rows_by rows old).list row fits.keys none);
      ids = ids-push rows.largest old.largest old.births row fits.ids above;
      alive = fits.alive;
      few = few;
    }
