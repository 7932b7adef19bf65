-- The ids of the rows that pass a test.
use Rattle.std.proofs.Common.{◌≡◌, ℕ, ◌+◌, Bool, true, false, List, [], ◌∷◌, map, nat_eq, sym, ◌∙◌, ⊎_elim, arith}
use Rattle.std.proofs.lemmas.Bool.{cases_Bool, cases_eq, ne_eqb, eq-eqb}
use Rattle.fts_ids.specs.Ids.{has, AscendFrom}
use Rattle.fts_ids.proofs.Ascending.{AscendFrom-sooner, has_below}
use Rattle.fts_types.specs.Row.{Row}
use Rattle.fts_meaning.specs.View.{ids_where, columns_at}

-- ids of chosen rows ascend
pub where_ascends : (test : Row → Bool) (rows : List Row) (n : ℕ) → AscendFrom n (map (λ (row : Row). row.doc) rows) → AscendFrom n (ids_where test rows)
where_ascends test [] n up = tt
where_ascends test (row ∷ rows) n up =
    let rest : AscendFrom (row.doc + 1) (ids_where test rows) = where_ascends test rows (row.doc + 1) up.1 in
    let le = up.0 in
    ⊎_elim
    (λ (passes : test row ≡ true). rw passes (up.0, rest))
    (λ (fails : test row ≡ false). rw fails (AscendFrom-sooner (row.doc + 1) n (ids_where test rows) rest (omega (arith, le))))
    (cases_Bool (test row))

-- an id is among those of chosen rows where its row is chosen; the row of no columns is not
pub has_where : (test : List (List ℕ) → Bool) → test [] ≡ false → (rows : List Row) (n : ℕ) → AscendFrom n (map (λ (row : Row). row.doc) rows) → (id : ℕ) → has (ids_where (λ (row : Row). test row.texts) rows) id ≡ test (columns_at rows id)
has_where test nothing [] n up id = sym nothing
has_where test nothing (row ∷ rows) n up id =
    let rest : has (ids_where (λ (r : Row). test r.texts) rows) id ≡ test (columns_at rows id) = has_where test nothing rows (row.doc + 1) up.1 id in
    ⊎_elim
    (λ (same : id ≡ row.doc).
    let it : nat_eq id row.doc ≡ true = eq-eqb id row.doc same in
    let later : has (ids_where (λ (r : Row). test r.texts) rows) id ≡ false = has_below (row.doc + 1) id (ids_where (λ (r : Row). test r.texts) rows) (where_ascends (λ (r : Row). test r.texts) rows (row.doc + 1) up.1) (omega (arith, same)) in
    ⊎_elim
    (λ (passes : test row.texts ≡ true). rw (passes, it) (sym passes))
    (λ (fails : test row.texts ≡ false). rw (fails, it) (later ∙ sym fails))
    (cases_Bool (test row.texts)))
    (λ (differs : id ≡ row.doc → ⊥).
    let apart : nat_eq id row.doc ≡ false = ne_eqb id row.doc differs in
    ⊎_elim
    (λ (passes : test row.texts ≡ true). rw (passes, apart) rest)
    (λ (fails : test row.texts ≡ false). rw (fails, apart) rest)
    (cases_Bool (test row.texts)))
    (cases_eq id row.doc)
