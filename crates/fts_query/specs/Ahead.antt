use Rattle.std.specs.Prelude.{ℕ, List, [], ◌∷◌, length, if◌then◌else◌, Option, None, Some}
use Rattle.fts_words.specs.declared.span.Span.{Span}
use Rattle.fts_words.specs.Run.{starts, run_at}
use Rattle.fts_words.specs.RawWords.{in_word}
use Rattle.fts_token.specs.Left.{raw_words_left}
use Rattle.fts_query.specs.declared.words.WordsAhead.{WordsAhead}

-- a word before others; without one there are none
abbrev pub first_and : Option Span → List Span → List Span
first_and None rest = []
first_and (Some word) rest = word ∷ rest

-- the raw words of its text that are yet to be given
abbrev pub words_ahead : WordsAhead → List Span
words_ahead words = first_and words.first (raw_words_left words.rest)

-- the raw word that starts at a place of the text, if one does
abbrev pub word_from : List ℕ → ℕ → Option Span
word_from text place =
    if starts (in_word text) place then Some (run_at (in_word text) (length text) place) else None
