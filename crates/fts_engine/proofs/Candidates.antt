-- The rows whose ids are looked up are those that were chosen.
use Rattle.std.proofs.Common.{◌≡◌, ◌⊎◌, inl, inr, ℕ, ◌+◌, ◌<◌, Bool, true, false, nat_eq, Option, Some, List, [], ◌∷◌, ◌++◌, filter, map, length, append-nil, refl, sym, ap, ◌∙◌, arith, ⊎_elim}
use Rattle.std.proofs.lemmas.Bool.{cases_Bool, eq-eqb, ne_eqb}
use Rattle.fts_types.specs.Row.{Row}
use Rattle.fts_commits.specs.Turn.{RowsAscend}
use Rattle.fts_rows.specs.Rows.{texts_with_id}
use Rattle.fts_words.specs.Indexed.{Rules}
use Rattle.fts_meaning.specs.Leaf.{Leaf}
use Rattle.fts_meaning.specs.View.{Candidate, Postings, candidate_of, ids_where, postings_of}
use Rattle.fts_query.specs.declared.view.Leaf.{Leaf as Asked}
use Rattle.fts_query.specs.Seen.{leaves_seen}
use Rattle.fts_engine.specs.Looking.{candidate_with, rows_at, with_ids}

-- each row is found by its id
abbrev Finds : List Row → List Row → Type 0
Finds all [] = Unit {0}
Finds all (row ∷ rows) = (texts_with_id row.doc all ≡ Some row.texts) × Finds all rows

first_found : (row : Row) (rows : List Row) → texts_with_id row.doc (row ∷ rows) ≡ Some row.texts
first_found row rows = rw (eq-eqb row.doc row.doc refl) refl

found_behind : (row : Row) (low high : ℕ) (all rows : List Row) → row.doc < low + 1 → RowsAscend low high rows → Finds all rows → Finds (row ∷ all) rows
found_behind row low high all [] less up finds = tt
found_behind row low high all (other ∷ rows) less up finds =
    let apart : nat_eq row.doc other.doc ≡ false = ne_eqb row.doc other.doc (λ same. omega (arith, same, less, up.0)) in
    (rw apart finds.0, found_behind row other.doc high all rows (omega (arith, less, up.0)) up.1 finds.1)

each_found : (low high : ℕ) (rows : List Row) → RowsAscend low high rows → Finds rows rows
each_found low high [] up = tt
each_found low high (row ∷ rows) up =
    (first_found row rows, found_behind row row.doc high rows rows (omega arith) up.1 (each_found row.doc high rows up.1))

chosen : (test : Row → Bool) (all rows : List Row) → Finds all rows → rows_at all (ids_where test rows) ≡ map candidate_of (filter test rows)
chosen test all [] finds = refl
chosen test all (row ∷ rows) finds =
    ⊎_elim
    (λ (yes : test row ≡ true).
    rw yes (ap (λ (found : Option (List (List ℕ))). candidate_with row.doc found ++ rows_at all (ids_where test rows)) finds.0
    ∙ ap (λ (rest : List Candidate). candidate_of row ∷ rest) (chosen test all rows finds.1)))
    (λ (no : test row ≡ false). rw no (chosen test all rows finds.1))
    (cases_Bool (test row))

-- the rows that pass a test are found by their ids
pub rows_chosen : (test : Row → Bool) (high : ℕ) (rows : List Row) → RowsAscend 0 high rows → rows_at rows (ids_where test rows) ≡ map candidate_of (filter test rows)
rows_chosen test high rows up = chosen test rows rows (each_found 0 high rows up)

-- leaves, each with the ids of its candidates
pub with_own : (rules : Rules) (rows : List Row) (asked : List Leaf) → with_ids asked (map (λ (leaf : Leaf). (postings_of rules rows leaf).ids) asked) ≡ map (postings_of rules rows) asked
with_own rules rows [] = refl
with_own rules rows (leaf ∷ asked) = ap (λ (more : List Postings). postings_of rules rows leaf ∷ more) (with_own rules rows asked)

-- one of two lists that are paired has ended
pub none_paired : (done : List Postings) (left : List Asked) (lists : List (List ℕ)) → (length left ≡ 0) ⊎ (length lists ≡ 0) → done ≡ done ++ with_ids (leaves_seen left) lists
none_paired done [] lists over = sym (append-nil done)
none_paired done (leaf ∷ left) [] over = sym (append-nil done)
none_paired done (leaf ∷ left) (ids ∷ lists) (inl over) = absurd (omega (arith, over))
none_paired done (leaf ∷ left) (ids ∷ lists) (inr over) = absurd (omega (arith, over))
