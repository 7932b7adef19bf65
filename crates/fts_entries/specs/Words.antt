-- The words of rows, as the index keeps them.
use Rattle.std.specs.Prelude.{ℕ, ◌+◌, List, [], ◌∷◌, length, map, filter, sum_by}
use Rattle.std.specs.List.{flat_map}
use Rattle.std.specs.Str.{bytes_eq}
use Rattle.fts_words.specs.Indexed.{Rules, indexed_words, word_of}
use Rattle.fts_ilist.specs.Spelling.{Posting}
use Rattle.fts_types.specs.Row.{Row}

-- the positions at which a row has the word, in their order
abbrev pub positions_of : Rules → List (List ℕ) → List ℕ → List ℕ
positions_of rules texts word =
    map (λ found. found.position) (filter (λ found. bytes_eq word (word_of texts found)) (indexed_words rules texts))

-- what a document puts into the list of a word that it has at these positions: nothing, where there are none
abbrev pub posting_at : ℕ → List ℕ → List Posting
posting_at doc [] = []
posting_at doc (position ∷ positions) = record { id = doc; positions = position ∷ positions } ∷ []

-- what a row puts into the list of the word
abbrev pub row_postings : Rules → List ℕ → Row → List Posting
row_postings rules word row = posting_at row.doc (positions_of rules row.texts word)

-- what rows put into the list of the word, one after another
abbrev pub rows_postings : Rules → List ℕ → List Row → List Posting
rows_postings rules word rows = flat_map (row_postings rules word) rows

-- what a row counts in the cache: 16, and for each of its indexed words the word's length and 8
abbrev pub row_size : Rules → Row → ℕ
row_size rules row = 16 + sum_by (λ found. length (word_of row.texts found) + 8) (indexed_words rules row.texts)

abbrev pub rows_size : Rules → List Row → ℕ
rows_size rules rows = sum_by (row_size rules) rows
