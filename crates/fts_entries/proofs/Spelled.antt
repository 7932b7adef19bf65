-- What rows put into the list of a word has a spelling, and so have the nodes that it is packed into.
use Rattle.std.proofs.Common.{◌≡◌, ◌≢◌, ◌⊎◌, ℕ, ◌<◌, ◌≤◌, ◌^◌, Bool, true, false, cond, if◌then◌else◌, map, filter, bytes_eq, List, [], ◌∷◌, ◌++◌, length, append_assoc, refl, sym, ap, subst, ◌∙◌, arith, inl, inr, ⊎_elim}
use Rattle.std.specs.Prelude.{All}
use Rattle.std.specs.List.{AllByRecursion}
use Rattle.std.proofs.lemmas.List.Elements.{All-head, All-tail, All-weaker, recursion_from_All}
use Rattle.std.proofs.lemmas.Slice.Eq.{bytes_eq-Decides}
use Rattle.fts_words.specs.declared.placed.PlacedWord.{PlacedWord}
use Rattle.fts_words.specs.Indexed.{Rules, word_of, IsIndexedWord, indexed_words}
use Rattle.fts_words.proofs.PlacedLemmas.{indexed_words_each}
use Rattle.fts_types.specs.Row.{Row}
use Rattle.fts_commits.specs.Turn.{RowsAscend}
use Rattle.fts_ilist.specs.Spelling.{Posting, PositionsFrom, PostingsAfter, ArePostings}
use Rattle.fts_ilist.specs.Packing.{has_place, packed_from, packed, is_sound}
use Rattle.fts_entries.specs.Words.{positions_of, posting_at, rows_postings}
use Rattle.fts_entries.specs.Pass.{IsPackedNode}
use Rattle.fts_entries.specs.Rows.{CanIndex}
use Rattle.fts_entries.proofs.Places.{positions_spelled}

-- ---- postings behind an id

pub spelled_lower : (low last : ℕ) (ps : List Posting) → low ≤ last → PostingsAfter last ps → PostingsAfter low ps
spelled_lower low last [] less are = tt
spelled_lower low last (p ∷ ps) less are = (omega (arith, less, are.0), are.1, are.2, are.3)

front : (last : ℕ) (ps qs : List Posting) → PostingsAfter last (ps ++ qs) → PostingsAfter last ps
front last [] qs are = tt
front last (p ∷ ps) qs are = (are.0, are.1, are.2, front p.id ps qs are.3)

behind : (last : ℕ) (ps qs : List Posting) → PostingsAfter last (ps ++ qs) → PostingsAfter 0 qs
behind last [] qs are = spelled_lower 0 last qs (omega arith) are
behind last (p ∷ ps) qs are = behind p.id ps qs are.3

with_row : (doc last : ℕ) (positions : List ℕ) (rest : List Posting) → last < doc → doc < 2 ^ 63 → PositionsFrom 0 positions → PostingsAfter doc rest → PostingsAfter last (posting_at doc positions ++ rest)
with_row doc last [] rest above limit from after = spelled_lower last doc rest (omega (arith, above)) after
with_row doc last (position ∷ positions) rest above limit from after = (above, limit, (omega arith, from), after)

-- the postings of rows that can be indexed have a spelling
pub rows_spelled : (rules : Rules) (word : List ℕ) (low high : ℕ) (rows : List Row) → RowsAscend low high rows → All CanIndex rows → PostingsAfter low (rows_postings rules word rows)
rows_spelled rules word low high [] ids can = tt
rows_spelled rules word low high (row ∷ rows) ids can =
    let first : CanIndex row = All-head CanIndex row rows can in
    with_row row.doc low (positions_of rules row.texts word) (rows_postings rules word rows) ids.0 first.limit (positions_spelled rules row.texts word first.texts)
    (rows_spelled rules word row.doc high rows ids.1 (All-tail CanIndex row rows can))

-- ---- nodes

sound_with : (d : Posting) (ds : List Posting) (p : Posting) → is_sound ((d ∷ ds) ++ p ∷ []) ≡ has_place 8192 (d ∷ ds) p
sound_with d [] p = refl
sound_with d (e ∷ es) p = refl

each_from : (d : Posting) (ds ps : List Posting) → is_sound (d ∷ ds) ≡ true → ArePostings ((d ∷ ds) ++ ps) → AllByRecursion IsPackedNode (packed_from 8192 (d ∷ ds) ps)
each_from d ds [] sound are = (record { are = front 0 (d ∷ ds) [] are; sound = sound }, tt)
each_from d ds (p ∷ ps) sound are =
    by (has_place 8192 (d ∷ ds) p)
    (λ has. each_from d (ds ++ p ∷ []) ps (sound_with d ds p ∙ has) (subst (PostingsAfter 0) (sym (append_assoc (d ∷ ds) (p ∷ []) ps)) are))
    (each_from p [] ps refl (behind 0 (d ∷ ds) (p ∷ ps) are))
  where
    by : (b : Bool) → (b ≡ true → AllByRecursion IsPackedNode (packed_from 8192 ((d ∷ ds) ++ p ∷ []) ps)) → AllByRecursion IsPackedNode (packed_from 8192 (p ∷ []) ps)
        → AllByRecursion IsPackedNode (if b then packed_from 8192 ((d ∷ ds) ++ p ∷ []) ps else (d ∷ ds) ∷ packed_from 8192 (p ∷ []) ps)
    by true more next = more refl
    by false more next = (record { are = front 0 (d ∷ ds) (p ∷ ps) are; sound = sound }, next)

-- documents that have a spelling are packed into such nodes
pub packed_each : (ps : List Posting) → ArePostings ps → AllByRecursion IsPackedNode (packed ps)
packed_each [] are = tt
packed_each (p ∷ ps) are = each_from p [] ps refl are

-- ---- words

module _ (rules : Rules) (word : List ℕ) (P : List ℕ → Type 0) (each : (texts : List (List ℕ)) (found : PlacedWord) → IsIndexedWord rules texts found → P (word_of texts found)) where
  in_row : (texts : List (List ℕ)) (xs : List PlacedWord) → AllByRecursion (λ found. P (word_of texts found)) xs → filter (λ found. bytes_eq word (word_of texts found)) xs ≢ [] → P word
  in_row texts [] all some = absurd (some refl)
  in_row texts (x ∷ xs) all some = by (bytes_eq word (word_of texts x)) refl some (in_row texts xs all.1)
    where
      left : List PlacedWord
      left = filter (λ found. bytes_eq word (word_of texts found)) xs

      by : (b : Bool) → bytes_eq word (word_of texts x) ≡ b → cond b (x ∷ left) left ≢ [] → (left ≢ [] → P word) → P word
      by true e some on = subst P (sym ((bytes_eq-Decides word (word_of texts x)).0 e)) all.0
      by false e some on = on some

  here_or_later : (doc : ℕ) (xs : List PlacedWord) (rest : List Posting) → posting_at doc (map (λ found. found.position) xs) ++ rest ≢ [] → (xs ≢ []) ⊎ (rest ≢ [])
  here_or_later doc [] rest some = inr some
  here_or_later doc (x ∷ xs) rest some = inl (λ e. absurd (omega (arith, ap length e)))

  -- what holds of each indexed word holds of a word that some of these rows has
  pub of_word : (rows : List Row) → rows_postings rules word rows ≢ [] → P word
  of_word [] some = absurd (some refl)
  of_word (row ∷ rows) some =
      let all = indexed_words rules row.texts in
      ⊎_elim
      (λ here. in_row row.texts all
      (recursion_from_All (λ found. P (word_of row.texts found)) all (All-weaker (IsIndexedWord rules row.texts) (λ found. P (word_of row.texts found)) (each row.texts) all (indexed_words_each row.texts rules))) here)
      (λ later. of_word rows later)
      (here_or_later row.doc (filter (λ found. bytes_eq word (word_of row.texts found)) all) (rows_postings rules word rows) some)
