use Rattle.std.specs.Prelude.{◌≡◌, ℕ, ◌+◌, ◌<◌, Bool, not, ◌&&◌, List, [], ◌∷◌, ◌++◌, length, map, take, filter, sum_by}
use Rattle.std.specs.Prelude.{count_by, nat_lt, nat_le, slice_index_or, IsTrue}
use Rattle.std.specs.List.{enumerate_from, AllPairs}
use Rattle.fts_words.specs.declared.span.Span.{Span}
use Rattle.fts_words.specs.declared.placed.PlacedWord.{PlacedWord}
use Rattle.fts_words.specs.Byte.{lowered}
use Rattle.fts_words.specs.Word.{IsRawWord}
use Rattle.fts_words.specs.RawWords.{raw_words, bytes_of}
use Rattle.fts_words.specs.Order.{is_among}

-- which words are indexed: the least and the greatest length in bytes, and the words that are left out
pub record Rules : Type 0 where
  pub min : ℕ
  pub max : ℕ
  pub stopwords : List (List ℕ)

-- the lowered word can be an indexed word: it is neither too short nor too long, and no stopword
abbrev pub is_indexable : Rules → List ℕ → Bool
is_indexable rules word =
    (nat_le rules.min (length word) && nat_le (length word) rules.max) && not (is_among rules.stopwords word)

-- the text of a column, counted from 0; there is none behind the last column
abbrev pub column_text : List (List ℕ) → ℕ → List ℕ
column_text columns column = slice_index_or columns column []

-- how many bytes stand before a column where the columns are joined by one byte each
abbrev pub column_offset : List (List ℕ) → ℕ → ℕ
column_offset columns column = sum_by (λ text. length text + 1) (take column columns)

-- the lowered bytes of a word that stands in the row
abbrev pub word_of : List (List ℕ) → PlacedWord → List ℕ
word_of columns word = lowered (bytes_of (column_text columns word.column) word.span)

-- the word stands in the row with its word number and its position
pub record IsPlaced (columns : List (List ℕ)) (word : PlacedWord) : Type 0 where
  pub column : word.column < length columns
  pub raw_word : IsRawWord (column_text columns word.column) word.span.from word.span.to
  -- how many raw words of its column start before it
  pub number : word.number ≡ count_by (λ other. nat_lt other.from word.span.from)
      (raw_words (column_text columns word.column))
  -- where it starts in its row, from 0
  pub position : word.position ≡ column_offset columns word.column + word.span.from

-- the word is an indexed word of the row (MySQL 8.0 manual, "Fine-Tuning MySQL Full-Text Search" and "Full-Text
-- Stopwords")
pub record IsIndexedWord (rules : Rules) (columns : List (List ℕ)) (word : PlacedWord) : Type 0 where
  pub placed : IsPlaced columns word
  pub indexable : IsTrue (is_indexable rules (word_of columns word))

-- these spans of a column's text, the first with this word number, in a row where this many bytes stand before the
-- column
abbrev pub placed_spans : ℕ → ℕ → ℕ → List Span → List PlacedWord
placed_spans column offset number spans =
    map (λ p. record { column = column; span = p.1; number = p.0; position = offset + p.1.from })
    (enumerate_from number spans)

-- the raw words of columns of which the first has this number and this many bytes before it
abbrev pub placed_words_from : ℕ → ℕ → List (List ℕ) → List PlacedWord
placed_words_from column offset [] = []
placed_words_from column offset (text ∷ texts) =
    placed_spans column offset 0 (raw_words text) ++ placed_words_from (column + 1) (offset + length text + 1) texts

-- the raw words of a row, in their order
unfoldable pub placed_words : List (List ℕ) → List PlacedWord
placed_words columns = placed_words_from 0 0 columns

-- the indexed words of a row, in their order
abbrev pub indexed_words : Rules → List (List ℕ) → List PlacedWord
indexed_words rules columns = filter (λ word. is_indexable rules (word_of columns word)) (placed_words columns)

-- the words stand in ascending order of their positions
abbrev pub PositionsAscend : List PlacedWord → Type 0
PositionsAscend words = AllPairs (λ v w. v.position < w.position) words
