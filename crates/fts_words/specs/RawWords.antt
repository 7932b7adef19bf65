use Rattle.std.specs.Prelude.{ℕ, ◌+◌, ◌-◌, Bool, ◌||◌, ◌&&◌, List, length, slice_range}
use Rattle.fts_words.specs.declared.span.Span.{Span}
use Rattle.fts_words.specs.Byte.{word_at, apostrophe_at}
use Rattle.fts_words.specs.Run.{runs_from}

-- the place belongs to a word: it has a word byte, or an apostrophe between two word bytes
unfoldable pub in_word : List ℕ → ℕ → Bool
in_word text place =
    word_at text place || (apostrophe_at text place && (word_at text (place - 1) && word_at text (place + 1)))

-- the raw words of the text that start at a place or behind it, in their order
abbrev pub raw_words_from : List ℕ → ℕ → List Span
raw_words_from text place = runs_from (in_word text) (length text) place

-- the raw words of the text, in their order
abbrev pub raw_words : List ℕ → List Span
raw_words text = raw_words_from text 0

-- the bytes of a span of the text
abbrev pub bytes_of : List ℕ → Span → List ℕ
bytes_of text span = slice_range text span.from span.to
