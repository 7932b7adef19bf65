use Rattle.std.specs.Prelude.{◌≡◌, ℕ, Bool, true, false, ◌&&◌, if◌then◌else◌, nat_eq, List, [], ◌∷◌, map, filter}
use Rattle.std.specs.List.{list_any, list_all}
use Rattle.std.specs.Str.{bytes_eq}
use Rattle.fts_types.specs.Row.{Row}
use Rattle.fts_words.specs.Order.{begins_with}
use Rattle.fts_words.specs.Indexed.{Rules}
use Rattle.fts_meaning.specs.Tree.{Terms}
use Rattle.fts_meaning.specs.Holds.{some_indexed}
use Rattle.fts_meaning.specs.Leaf.{Leaf, no_leaf, of_word, of_prefix, of_words, leaves}

-- In what follows a row is the list of its columns' texts.

-- the row has the word, as an indexed word
abbrev pub has_word : Rules → List (List ℕ) → List ℕ → Bool
has_word rules columns w = some_indexed rules columns (λ found. bytes_eq found w)

-- the row has each of the words; where there is none, no row has them
abbrev pub has_words : Rules → List (List ℕ) → List (List ℕ) → Bool
has_words rules columns [] = false
has_words rules columns (w ∷ ws) = list_all (has_word rules columns) (w ∷ ws)

-- the row is a candidate of the leaf: it has the word, a word that begins so, or each of the words
abbrev pub is_candidate : Rules → List (List ℕ) → Leaf → Bool
is_candidate rules columns no_leaf = false
is_candidate rules columns (of_word w) = has_word rules columns w
is_candidate rules columns (of_prefix w) = some_indexed rules columns (begins_with w)
is_candidate rules columns (of_words words) = has_words rules columns words

-- whether the texts of a leaf's candidates are looked into: that a row has the words doesn't say that they stand
-- together or lie near each other
abbrev pub needs_texts : Leaf → Bool
needs_texts no_leaf = false
needs_texts (of_word w) = false
needs_texts (of_prefix w) = false
needs_texts (of_words words) = true

-- a leaf, and the ids of the rows that are its candidates
pub record Postings : Type 0 where
  pub leaf : Leaf
  pub ids : List ℕ

-- a row whose texts are looked into
pub record Candidate : Type 0 where
  pub doc : ℕ
  pub texts : List (List ℕ)

-- what the index tells of leaves: the number of commits that it stands for, the postings of each leaf, and the texts
-- that are to be looked into
pub record View : Type 0 where
  pub number : ℕ
  pub postings : List Postings
  pub texts : List Candidate

-- the document ids of the rows that pass a test, in their order
abbrev pub ids_where : (Row → Bool) → List Row → List ℕ
ids_where test rows = map (λ row. row.doc) (filter test rows)

-- the postings of a leaf in rows
abbrev pub postings_of : Rules → List Row → Leaf → Postings
postings_of rules rows leaf = record { leaf = leaf; ids = ids_where (λ row. is_candidate rules row.texts leaf) rows }

-- the row is a candidate of a leaf of these that needs texts
abbrev pub is_looked_into : Rules → List Leaf → Row → Bool
is_looked_into rules asked row = list_any (λ leaf. needs_texts leaf && is_candidate rules row.texts leaf) asked

abbrev pub candidate_of : Row → Candidate
candidate_of row = record { doc = row.doc; texts = row.texts }

-- the view of rows for these leaves: one posting for each leaf, and the texts of exactly the rows that are candidates
-- of a phrase or a distance
abbrev pub view_of : Rules → List Row → ℕ → List Leaf → View
view_of rules rows number asked = record {
  number = number;
  postings = map (postings_of rules rows) asked;
  texts = map candidate_of (filter (is_looked_into rules asked) rows);
}

-- the view stands for these rows under these settings and this query
abbrev pub StandsFor : Rules → List Row → Terms → View → Type 0
StandsFor rules rows terms view = view ≡ view_of rules rows view.number (leaves rules terms)

-- the texts of the candidate with an id; none where there is no such candidate
abbrev pub texts_at : List Candidate → ℕ → List (List ℕ)
texts_at [] id = []
texts_at (c ∷ cs) id = if nat_eq id c.doc then c.texts else texts_at cs id

-- the texts of the row with an id; none where there is no such row
abbrev pub columns_at : List Row → ℕ → List (List ℕ)
columns_at rows id = texts_at (map candidate_of rows) id
