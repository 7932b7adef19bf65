-- The ids of a word's postings are those of the rows that have the word.
use Rattle.std.proofs.Common.{◌≡◌, ℕ, Bool, true, false, cond, ◌||◌, List, [], ◌∷◌, ◌++◌, map, filter, refl, sym, ap, ◌∙◌}
use Rattle.std.specs.List.{list_any}
use Rattle.std.specs.Str.{bytes_eq}
use Rattle.std.proofs.lemmas.List.{map-append}
use Rattle.std.proofs.lemmas.Slice.Eq.{bytes_eq-Decides}
use Rattle.std.proofs.lemmas.Bool.Decides.{same_from_decides}
use Rattle.fts_words.specs.declared.placed.PlacedWord.{PlacedWord}
use Rattle.fts_words.specs.Indexed.{Rules, indexed_words, word_of}
use Rattle.fts_ilist.specs.Spelling.{Posting}
use Rattle.fts_types.specs.Row.{Row}
use Rattle.fts_meaning.specs.View.{has_word, ids_where}
use Rattle.fts_entries.specs.Words.{posting_at, row_postings, rows_postings}
use Rattle.fts_index.specs.Gathered.{doc_ids}

symmetric : (v w : List ℕ) → bytes_eq v w ≡ bytes_eq w v
symmetric v w =
    let there = bytes_eq-Decides v w in
    let back = bytes_eq-Decides w v in
    same_from_decides (bytes_eq v w) (bytes_eq w v) there (λ e. sym (back.0 e), λ e. back.1 (sym e))

abbrev positions_in : List PlacedWord → List ℕ
positions_in founds = map (λ found. found.position) founds

one_more : (doc : ℕ) (found : PlacedWord) (founds : List PlacedWord) (here later : Bool) → doc_ids (posting_at doc (positions_in founds)) ≡ cond later (doc ∷ []) []
    → doc_ids (posting_at doc (positions_in (cond here (found ∷ founds) founds))) ≡ cond (here || later) (doc ∷ []) []
one_more doc found founds true later e = refl
one_more doc found founds false later e = e

found_among : (doc : ℕ) (texts : List (List ℕ)) (word : List ℕ) (founds : List PlacedWord)
    → doc_ids (posting_at doc (positions_in (filter (λ found. bytes_eq word (word_of texts found)) founds)))
    ≡ cond (list_any (λ found. bytes_eq (word_of texts found) word) founds) (doc ∷ []) []
found_among doc texts word [] = refl
found_among doc texts word (found ∷ founds) =
    let rest = filter (λ (other : PlacedWord). bytes_eq word (word_of texts other)) founds in
    ap (λ (b : Bool). doc_ids (posting_at doc (positions_in (cond b (found ∷ rest) rest)))) (symmetric word (word_of texts found))
    ∙ one_more doc found rest (bytes_eq (word_of texts found) word) (list_any (λ (other : PlacedWord). bytes_eq (word_of texts other) word) founds) (found_among doc texts word founds)

kept_or_not : (row : Row) (rows : List Row) (has : Bool) → cond has (row.doc ∷ []) [] ++ map (λ (r : Row). r.doc) rows ≡ map (λ (r : Row). r.doc) (cond has (row ∷ rows) rows)
kept_or_not row rows true = refl
kept_or_not row rows false = refl

-- the ids that rows put into a word's list are those of the rows that have it
pub rows_having : (rules : Rules) (word : List ℕ) (rows : List Row) → doc_ids (rows_postings rules word rows) ≡ ids_where (λ (row : Row). has_word rules row.texts word) rows
rows_having rules word [] = refl
rows_having rules word (row ∷ rows) =
    map-append (λ (p : Posting). p.id) (row_postings rules word row) (rows_postings rules word rows)
    ∙ ap (λ (ids : List ℕ). ids ++ doc_ids (rows_postings rules word rows)) (found_among row.doc row.texts word (indexed_words rules row.texts))
    ∙ ap (λ (ids : List ℕ). cond (has_word rules row.texts word) (row.doc ∷ []) [] ++ ids) (rows_having rules word rows)
    ∙ kept_or_not row (filter (λ (r : Row). has_word rules r.texts word) rows) (has_word rules row.texts word)
