use Rattle.std.specs.Prelude.{ℕ, ◌+◌, ◌-◌, Bool, ◌==◌, List, [], ◌∷◌, length, filter, slice_index, slice_get, Option}
use Rattle.std.specs.List.{range_with_len}
use Rattle.fts_words.specs.declared.span.Span.{Span}

-- the text has a double quote (34) at this place
abbrev pub quote_at : List ℕ → ℕ → Bool
quote_at text place = slice_index text place == 34

-- the places of the text's quotes, from a place on
unfoldable pub quotes_from : List ℕ → ℕ → List ℕ
quotes_from text place = filter (quote_at text) (range_with_len place (length text - place))

-- places in pairs, from the left; the last of an odd number has no partner
abbrev pub pairs : List ℕ → List Span
pairs [] = []
pairs (from ∷ []) = []
pairs (from ∷ to ∷ rest) = record { from = from; to = to } ∷ pairs rest

-- the phrases of a query, each from its opening quote to its closing quote
abbrev pub phrases : List ℕ → List Span
phrases text = pairs (quotes_from text 0)

-- the first quote behind a place, which closes the phrase that opens there
abbrev pub closing_quote : List ℕ → ℕ → Option ℕ
closing_quote text place = slice_get (quotes_from text (place + 1)) 0
