-- What stands in DELETED has died, what died is no row, and what the tables have of no row is deleted.
use Rattle.std.proofs.Common.{◌≡◌, ℕ, zero, suc, ◌-◌, ◌≤◌, Bool, true, false, cond, not, ◌||◌, filter, nat_eq, nat_le, List, [], ◌∷◌, ◌++◌, take, drop, refl, sym, ap, ap₂, subst, ◌∙◌, ⊎_elim, arith}
use Rattle.std.specs.Prelude.{fold}
use Rattle.std.specs.List.{All, AllByRecursion, list_any}
use Rattle.std.proofs.lemmas.Bool.{eqb-true, eq-eqb, ne_eqb, false≢true, or_cases, or_left, or_right, and_parts}
use Rattle.std.proofs.lemmas.List.Elements.{recursion_from_All, All-from_recursion}
use Rattle.std.proofs.lemmas.List.Folds.{list_any-append}
use Rattle.fts_words.specs.Indexed.{Rules}
use Rattle.fts_types.specs.Row.{Row}
use Rattle.fts_commits.specs.Commit.{Rows, no_rows}
use Rattle.fts_commits.specs.Turn.{Turn, RowsAscend, AreTurns, has_doc, deaths_of, rows_but, rows_by}
use Rattle.fts_ids.specs.Ids.{has}
use Rattle.fts_ids.proofs.Ascending.{has-filter}
use Rattle.fts_lists.proofs.Ascending.{has-without}
use Rattle.fts_lists.proofs.Merging.{has-with_ids}
use Rattle.fts_ilist.specs.Spelling.{Posting}
use Rattle.fts_entries.specs.Entry.{IndexEntry, IndexState, sealed, begun, worked, finished, no_entries, after_entry, index_of, unflushed_through, flushed_deaths}
use Rattle.fts_entries.specs.Exact.{IsExact, is_deleted, all_postings}
use Rattle.fts_entries.specs.Words.{positions_of, row_postings, rows_postings}
use Rattle.fts_entries.proofs.Filters.{leads, all_joined, unfiltered}
use Rattle.fts_entries.proofs.Postings.{of_row, ends_within}
use Rattle.fts_entries.proofs.Turns.{among_all, asked_so}

-- ---- what stands in DELETED, or in BEING_DELETED, died in some commit

module _ (id : ℕ) where
  -- whose death is in a part of the turns died in them
  died_before : (n : ℕ) (turns : List Turn) → has (deaths_of (take n turns)) id ≡ true → has (deaths_of turns) id ≡ true
  died_before zero turns there = absurd (false≢true there)
  died_before (suc n) [] there = absurd (false≢true there)
  died_before (suc n) (turn ∷ turns) there =
      list_any-append (nat_eq id) turn.deaths (deaths_of turns)
      ∙ ⊎_elim
      (λ (here : has turn.deaths id ≡ true). or_left (has turn.deaths id) (has (deaths_of turns) id) here)
      (λ (later : has (deaths_of (take n turns)) id ≡ true). or_right (has turn.deaths id) (has (deaths_of turns) id) (died_before n turns later))
      (or_cases (has turn.deaths id) (has (deaths_of (take n turns)) id) (sym (list_any-append (nat_eq id) turn.deaths (deaths_of (take n turns))) ∙ there))

  died_behind : (n : ℕ) (turns : List Turn) → has (deaths_of (drop n turns)) id ≡ true → has (deaths_of turns) id ≡ true
  died_behind zero turns there = there
  died_behind (suc n) [] there = there
  died_behind (suc n) (turn ∷ turns) there =
      list_any-append (nat_eq id) turn.deaths (deaths_of turns) ∙ or_right (has turn.deaths id) (has (deaths_of turns) id) (died_behind n turns there)

  record HasDied (turns : List Turn) (s : IndexState) : Type 0 where
    deleted : has s.deleted id ≡ true → has (deaths_of turns) id ≡ true
    being : has s.being_deleted id ≡ true → has (deaths_of turns) id ≡ true

  died_from : (turns : List Turn) (s : IndexState) (entries : List IndexEntry) → HasDied turns s → HasDied turns (fold (after_entry turns) s entries)
  died_from turns s [] died = died
  died_from turns s (sealed through synced batch ∷ entries) died =
      let front : List Turn = unflushed_through through turns s in
      died_from turns (after_entry turns s (sealed through synced batch)) entries (record {
        deleted = λ there. ⊎_elim
            died.deleted
            (λ (more : has (flushed_deaths s.synced front) id ≡ true).
            died_behind s.flushed turns (died_before (through - s.flushed) (drop s.flushed turns)
            ((and_parts (nat_le id s.synced) (has (deaths_of front) id) (sym (has-filter (λ other. nat_le other s.synced) (deaths_of front) id) ∙ more)).1)))
            (or_cases (has s.deleted id) (has (flushed_deaths s.synced front) id) (sym (has-with_ids s.deleted (flushed_deaths s.synced front) id) ∙ there));
        being = died.being;
      })
  died_from turns s (begun ∷ entries) died =
      died_from turns (after_entry turns s begun) entries (record { deleted = died.deleted; being = died.deleted })
  died_from turns s (worked word new ∷ entries) died =
      died_from turns (after_entry turns s (worked word new)) entries (record { deleted = died.deleted; being = died.being })
  died_from turns s (finished ∷ entries) died =
      died_from turns (after_entry turns s finished) entries (record {
        deleted = λ there. died.deleted ((and_parts (not (has s.being_deleted id)) (has s.deleted id) (sym (has-without s.being_deleted s.deleted id) ∙ there)).1);
        being = λ there. absurd (false≢true there);
      })

  none_died : (turns : List Turn) → HasDied turns no_entries
  none_died turns = record { deleted = λ there. absurd (false≢true there); being = λ there. absurd (false≢true there) }

  -- ---- what died is no row

  both_none : (a b : Bool) → a ≡ false → b ≡ false → (a || b) ≡ false
  both_none a b e f = ap₂ (λ (x y : Bool). x || y) e f

  none_joined : (xs ys : List Row) → has_doc id xs ≡ false → has_doc id ys ≡ false → has_doc id (xs ++ ys) ≡ false
  none_joined xs ys e f = list_any-append (λ row. nat_eq row.doc id) xs ys ∙ both_none (has_doc id xs) (has_doc id ys) e f

  parts_none : (a b : Bool) → (a || b) ≡ false → (a ≡ false) × (b ≡ false)
  parts_none true b e = absurd (false≢true (sym e))
  parts_none false b e = (refl, e)

  none_left : (test : Row → Bool) (rows : List Row) → has_doc id rows ≡ false → has_doc id (filter test rows) ≡ false
  none_left test [] none = none
  none_left test (row ∷ rows) none =
      let parts = parts_none (nat_eq row.doc id) (has_doc id rows) none in
      by (test row) parts.0 (none_left test rows parts.1)
    where
      by : (b : Bool) → nat_eq row.doc id ≡ false → has_doc id (filter test rows) ≡ false → has_doc id (cond b (row ∷ filter test rows) (filter test rows)) ≡ false
      by true first rest = both_none (nat_eq row.doc id) (has_doc id (filter test rows)) first rest
      by false first rest = rest

  none_born : (low high : ℕ) (rows : List Row) → id ≤ low → RowsAscend low high rows → has_doc id rows ≡ false
  none_born low high [] used ids = refl
  none_born low high (row ∷ rows) used ids =
      both_none (nat_eq row.doc id) (has_doc id rows) (ne_eqb row.doc id (λ same. omega (arith, same, used, ids.0)))
      (none_born row.doc high rows (omega (arith, used, ids.0)) ids.1)

  none_of_dead : (dead : List ℕ) (rows : List Row) → has dead id ≡ true → has_doc id (rows_but dead rows) ≡ false
  none_of_dead dead [] there = refl
  none_of_dead dead (row ∷ rows) there = by (nat_eq row.doc id) refl (none_of_dead dead rows there)
    where
      is_dead : ℕ → Bool
      is_dead doc = list_any (λ other. nat_eq other doc) dead

      kept : (b : Bool) → nat_eq row.doc id ≡ false → has_doc id (rows_but dead rows) ≡ false → has_doc id (cond b (row ∷ rows_but dead rows) (rows_but dead rows)) ≡ false
      kept true first rest = both_none (nat_eq row.doc id) (has_doc id (rows_but dead rows)) first rest
      kept false first rest = rest

      by : (b : Bool) → nat_eq row.doc id ≡ b → has_doc id (rows_but dead rows) ≡ false
          → has_doc id (cond (not (is_dead row.doc)) (row ∷ rows_but dead rows) (rows_but dead rows)) ≡ false
      by true same rest =
          ap (λ (b : Bool). has_doc id (cond (not b) (row ∷ rows_but dead rows) (rows_but dead rows)))
          (ap is_dead (eqb-true row.doc id same) ∙ asked_so id dead ∙ there) ∙ rest
      by false other rest = kept (not (is_dead row.doc)) other rest

  -- who is no row, and whose id was used, stays none
  still_none : (low : ℕ) (turns : List Turn) (rows : Rows) → AreTurns low turns → id ≤ low → has_doc id rows.list ≡ false → has_doc id (fold rows_by rows turns).list ≡ false
  still_none low [] rows are used none = none
  still_none low (turn ∷ turns) rows are used none =
      still_none turn.largest turns (rows_by rows turn) are.2 (omega (arith, used, ends_within low turn.largest turn.births are.0))
      (none_joined (rows_but turn.deaths rows.list) turn.births (none_left (λ row. not (list_any (λ other. nat_eq other row.doc) turn.deaths)) rows.list none)
      (none_born low turn.largest turn.births used are.0))

  gone : (low : ℕ) (turns : List Turn) (rows : Rows) → AreTurns low turns → has (deaths_of turns) id ≡ true → has_doc id (fold rows_by rows turns).list ≡ false
  gone low [] rows are there = absurd (false≢true there)
  gone low (turn ∷ turns) rows are there = ⊎_elim
      (λ (here : has turn.deaths id ≡ true).
      (let used = among_all low id turn.deaths (recursion_from_All (λ other. other ≤ low) turn.deaths are.1) here in
      still_none turn.largest turns (rows_by rows turn) are.2 (omega (arith, used, ends_within low turn.largest turn.births are.0))
      (none_joined (rows_but turn.deaths rows.list) turn.births (none_of_dead turn.deaths rows.list here) (none_born low turn.largest turn.births used are.0))))
      (λ (later : has (deaths_of turns) id ≡ true). gone turn.largest turns (rows_by rows turn) are.2 later)
      (or_cases (has turn.deaths id) (has (deaths_of turns) id) (sym (list_any-append (nat_eq id) turn.deaths (deaths_of turns)) ∙ there))

pub deleted_died : (turns : List Turn) (entries : List IndexEntry) (id : ℕ) → has (index_of turns entries).deleted id ≡ true → has (deaths_of turns) id ≡ true
deleted_died turns entries id = (died_from id turns no_entries entries (none_died id turns)).deleted

pub being_died : (turns : List Turn) (entries : List IndexEntry) (id : ℕ) → has (index_of turns entries).being_deleted id ≡ true → has (deaths_of turns) id ≡ true
being_died turns entries id = (died_from id turns no_entries entries (none_died id turns)).being

pub dead_gone : (turns : List Turn) → AreTurns 0 turns → (id : ℕ) → has (deaths_of turns) id ≡ true → has_doc id (fold rows_by no_rows turns).list ≡ false
dead_gone turns are id = gone id 0 turns no_rows are

-- ---- what the tables or the cache have of no row is deleted

-- the postings of rows have the ids of these
have_rows : (rules : Rules) (word : List ℕ) (rows : List Row) → AllByRecursion (λ p. has_doc p.id rows ≡ true) (rows_postings rules word rows)
have_rows rules word [] = tt
have_rows rules word (row ∷ rows) =
    let among = λ (p : Posting). has_doc p.id (row ∷ rows) ≡ true in
    all_joined among (row_postings rules word row) (rows_postings rules word rows)
    (of_row (λ id. has_doc id (row ∷ rows) ≡ true) row.doc (positions_of rules row.texts word) (or_left (nat_eq row.doc row.doc) (has_doc row.doc rows) (eq-eqb row.doc row.doc refl)))
    (leads (λ p. has_doc p.id rows ≡ true) among (rows_postings rules word rows) (λ p there. or_right (nat_eq row.doc p.id) (has_doc p.id rows) there) (have_rows rules word rows))

pub left_deleted : (rules : Rules) (rows : List Row) (turns : List Turn) (s : IndexState) → IsExact rules rows turns s
    → (word : List ℕ) → All (λ p. has_doc p.id rows ≡ false → is_deleted turns s p.id ≡ true) (all_postings rules turns s word)
left_deleted rules rows turns s exact word =
    let left : Posting → Bool = λ p. not (is_deleted turns s p.id) in
    let P : Posting → Type 0 = λ p. has_doc p.id rows ≡ true in
    let ps : List Posting = all_postings rules turns s word in
    let Q : Posting → Type 0 = λ p. has_doc p.id rows ≡ false → is_deleted turns s p.id ≡ true in
    All-from_recursion Q ps
    (leads (λ p. left p ≡ true → P p) Q ps (λ p is. by (has_doc p.id rows) (is_deleted turns s p.id) is)
    (unfiltered P left ps (subst (AllByRecursion P) (sym (exact.live word)) (have_rows rules word rows))))
  where
    by : (row deleted : Bool) → (not deleted ≡ true → row ≡ true) → row ≡ false → deleted ≡ true
    by row true is none = refl
    by row false is none = absurd (false≢true (sym none ∙ is refl))
