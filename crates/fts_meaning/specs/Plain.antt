use Rattle.std.specs.Prelude.{ℕ, zero, suc, ◌+◌, ◌-◌, List, [], ◌∷◌, drop, slice_set, Option, None, Some}
use Rattle.fts_words.specs.declared.span.Span.{Span}
use Rattle.fts_meaning.specs.Quote.{phrases}
use Rattle.fts_meaning.specs.Distance.{Tail, distance_tail}

-- the text with n of its bytes, from a place on, as spaces
unfoldable pub with_spaces : List ℕ → ℕ → ℕ → List ℕ
with_spaces text place zero = text
with_spaces text place (suc n) = with_spaces (slice_set text place 32) (place + 1) n

-- how many bytes the tail takes
abbrev pub taken : Option Tail → ℕ
taken None = 0
taken (Some tail) = tail.len

-- where a phrase ends: behind its closing quote, and behind the tail of a distance where one follows
abbrev pub phrase_end : List ℕ → ℕ → ℕ
phrase_end text close = close + 1 + taken (distance_tail (drop (close + 1) text))

-- a text in which the bytes of these phrases of a query are spaces, but for their opening quotes
unfoldable pub without : List ℕ → List Span → List ℕ → List ℕ
without query [] text = text
without query (phrase ∷ rest) text =
    without query rest (with_spaces text (phrase.from + 1) (phrase_end query phrase.to - (phrase.from + 1)))

-- What is left of a query once its quotes are paired: the bytes of phrases, and those that make a phrase a distance,
-- are spaces. Each opening quote stays, and so does a quote without a partner.
abbrev pub plain : List ℕ → List ℕ
plain query = without query (phrases query) query
