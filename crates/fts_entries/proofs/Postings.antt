-- What rows put into the list of a word.
use Rattle.std.proofs.Common.{◌≡◌, ℕ, ◌<◌, ◌≤◌, Bool, true, false, cond, not, ◌&&◌, nat_le, bytes_eq, map, filter, List, [], ◌∷◌, ◌++◌, refl, sym, ap, ap₂, ◌∙◌, arith}
use Rattle.std.specs.List.{AllByRecursion}
use Rattle.std.proofs.lemmas.List.Elements.{filter-append}
use Rattle.std.proofs.lemmas.Bool.{lt-leb}
use Rattle.std.proofs.lemmas.Slice.Eq.{bytes_eq-Decides}
use Rattle.fts_words.specs.declared.placed.PlacedWord.{PlacedWord}
use Rattle.fts_words.specs.Indexed.{Rules, is_indexable, word_of, placed_words}
use Rattle.fts_words.specs.Order.{is_among}
use Rattle.fts_types.specs.Row.{Row}
use Rattle.fts_commits.specs.Turn.{RowsAscend}
use Rattle.fts_ilist.specs.Spelling.{Posting}
use Rattle.fts_entries.specs.Words.{positions_of, posting_at, row_postings, rows_postings}
use Rattle.fts_entries.proofs.Filters.{left_twice, leads, all_joined}
use Rattle.fts_entries.specs.Exact.{IdsAfter}
use Rattle.fts_entries.proofs.Packing.{after_lower}

-- a row's posting has its id
pub of_row : (P : ℕ → Type 0) (doc : ℕ) (positions : List ℕ) → P doc → AllByRecursion (λ p. P p.id) (posting_at doc positions)
of_row P doc [] h = tt
of_row P doc (position ∷ positions) h = (h, tt)

-- a test of ids takes all of a row, or nothing
row_left : (test : ℕ → Bool) (doc : ℕ) (positions : List ℕ) (b : Bool) → test doc ≡ b → filter (λ p. test p.id) (posting_at doc positions) ≡ cond b (posting_at doc positions) []
row_left test doc [] true h = refl
row_left test doc [] false h = refl
row_left test doc (position ∷ positions) true h = ap (λ (b : Bool). cond b (posting_at doc (position ∷ positions)) []) h
row_left test doc (position ∷ positions) false h = ap (λ (b : Bool). cond b (posting_at doc (position ∷ positions)) []) h

-- a filter of rows by their ids is one of postings
pub rows_left : (rules : Rules) (word : List ℕ) (test : ℕ → Bool) (rows : List Row)
    → rows_postings rules word (filter (λ row. test row.doc) rows) ≡ filter (λ p. test p.id) (rows_postings rules word rows)
rows_left rules word test [] = refl
rows_left rules word test (row ∷ rows) =
    by (test row.doc) refl (rows_left rules word test rows) ∙ sym (filter-append (λ (p : Posting). test p.id) (row_postings rules word row) (rows_postings rules word rows))
  where
    left : List Posting
    left = filter (λ p. test p.id) (rows_postings rules word rows)

    by : (b : Bool) → test row.doc ≡ b → rows_postings rules word (filter (λ r. test r.doc) rows) ≡ left → rows_postings rules word (cond b (row ∷ filter (λ r. test r.doc) rows) (filter (λ r. test r.doc) rows))
        ≡ filter (λ p. test p.id) (row_postings rules word row) ++ left
    by true h rest = ap₂ (λ (x y : List Posting). x ++ y) (sym (row_left test row.doc (positions_of rules row.texts word) true h)) rest
    by false h rest = ap₂ (λ (x y : List Posting). x ++ y) (sym (row_left test row.doc (positions_of rules row.texts word) false h)) rest

-- an id above one bound, and at most another
pub record IsBetween (low high id : ℕ) : Type 0 where
  pub above : low < id
  pub within : id ≤ high

pub ends_within : (low high : ℕ) (rows : List Row) → RowsAscend low high rows → low ≤ high
ends_within low high [] ids = ids
ends_within low high (row ∷ rows) ids = omega (arith, ids.0, ends_within row.doc high rows ids.1)

-- the postings of rows whose ids ascend between two bounds
pub rows_between : (rules : Rules) (word : List ℕ) (low high : ℕ) (rows : List Row) → RowsAscend low high rows
    → AllByRecursion (λ p. IsBetween low high p.id) (rows_postings rules word rows)
rows_between rules word low high [] ids = tt
rows_between rules word low high (row ∷ rows) ids =
    all_joined (λ p. IsBetween low high p.id) (row_postings rules word row) (rows_postings rules word rows)
    (of_row (IsBetween low high) row.doc (positions_of rules row.texts word) (record { above = ids.0; within = ends_within row.doc high rows ids.1 }))
    (leads (λ p. IsBetween row.doc high p.id) (λ p. IsBetween low high p.id) (rows_postings rules word rows)
    (λ p h. record { above = omega (arith, ids.0, h.above); within = h.within }) (rows_between rules word row.doc high rows ids.1))

after_row : (doc last : ℕ) (positions : List ℕ) (rest : List Posting) → last < doc → IdsAfter doc rest → IdsAfter last (posting_at doc positions ++ rest)
after_row doc last [] rest above ids = after_lower last doc rest (omega (arith, above)) ids
after_row doc last (position ∷ positions) rest above ids = (above, ids)

-- the postings of rows ascend with them
pub rows_after : (rules : Rules) (word : List ℕ) (low high : ℕ) (rows : List Row) → RowsAscend low high rows → IdsAfter low (rows_postings rules word rows)
rows_after rules word low high [] ids = tt
rows_after rules word low high (row ∷ rows) ids =
    after_row row.doc low (positions_of rules row.texts word) (rows_postings rules word rows) ids.0 (rows_after rules word row.doc high rows ids.1)

-- ---- the empty word

and_false : (a : Bool) → (a && false) ≡ false
and_false true = refl
and_false false = refl

none_left : {X : Type 0} (test : X → Bool) (xs : List X) → ((x : X) → test x ≡ false) → filter test xs ≡ []
none_left test [] h = refl
none_left test (x ∷ xs) h = ap (λ (b : Bool). cond b (x ∷ filter test xs) (filter test xs)) (h x) ∙ none_left test xs h

too_short : (rules : Rules) (word : List ℕ) → 0 < rules.min → word ≡ [] → is_indexable rules word ≡ false
too_short rules word some none =
    ap (is_indexable rules) none
    ∙ ap (λ (b : Bool). (b && nat_le 0 rules.max) && not (is_among rules.stopwords [])) (lt-leb rules.min 0 some)

-- no indexed word is empty
no_empty_word : (rules : Rules) (texts : List (List ℕ)) → 0 < rules.min → positions_of rules texts [] ≡ []
no_empty_word rules texts some =
    let is_it : PlacedWord → Bool = λ found. bytes_eq [] (word_of texts found) in
    ap (map (λ (found : PlacedWord). found.position))
    (left_twice is_it (λ found. is_indexable rules (word_of texts found)) (placed_words texts)
    ∙ none_left (λ found. is_indexable rules (word_of texts found) && is_it found) (placed_words texts) (λ found. by (word_of texts found) (bytes_eq [] (word_of texts found)) refl))
  where
    by : (word : List ℕ) (b : Bool) → bytes_eq [] word ≡ b → (is_indexable rules word && b) ≡ false
    by word true e = ap (λ (x : Bool). x && true) (too_short rules word some (sym ((bytes_eq-Decides [] word).0 e)))
    by word false e = and_false (is_indexable rules word)

pub nothing_of_empty : (rules : Rules) (rows : List Row) → 0 < rules.min → rows_postings rules [] rows ≡ []
nothing_of_empty rules [] some = refl
nothing_of_empty rules (row ∷ rows) some =
    ap (λ (positions : List ℕ). posting_at row.doc positions ++ rows_postings rules [] rows) (no_empty_word rules row.texts some) ∙ nothing_of_empty rules rows some
