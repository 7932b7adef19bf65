-- What a view is made of: the rows whose texts a search looks into, and each leaf with its rows.
use Rattle.std.specs.Prelude.{ℕ, List, [], ◌∷◌, map, Option, Some, None}
use Rattle.std.specs.List.{flat_map, zip}
use Rattle.fts_types.specs.Row.{Row}
use Rattle.fts_rows.specs.Rows.{texts_with_id}
use Rattle.fts_meaning.specs.Leaf.{Leaf}
use Rattle.fts_meaning.specs.View.{Candidate, Postings}

-- the candidate with these texts, if there are some
abbrev pub candidate_with : ℕ → Option (List (List ℕ)) → List Candidate
candidate_with doc None = []
candidate_with doc (Some texts) = record { doc = doc; texts = texts } ∷ []

-- the rows with these ids, as candidates
abbrev pub rows_at : List Row → List ℕ → List Candidate
rows_at rows docs = flat_map (λ doc. candidate_with doc (texts_with_id doc rows)) docs

-- each leaf with its ids
abbrev pub with_ids : List Leaf → List (List ℕ) → List Postings
with_ids asked lists = map (λ p. record { leaf = p.0; ids = p.1 }) (zip asked lists)
