use Rattle.std.specs.Prelude.{ℕ, ◌+◌, List, ◌++◌, length, take, drop, filter}
use Rattle.fts_words.specs.declared.span.Span.{Span}
use Rattle.fts_words.specs.declared.placed.PlacedWord.{PlacedWord}
use Rattle.fts_words.specs.RawWords.{raw_words_from}
use Rattle.fts_words.specs.Indexed.{column_text, placed_spans, placed_words_from, is_indexable, word_of}
use Rattle.fts_types.specs.declared.settings.Settings.{Settings}
use Rattle.fts_types.specs.Rules.{rules_of}
use Rattle.fts_token.specs.declared.raw.RawWords.{RawWords}
use Rattle.fts_token.specs.declared.placed.PlacedWords.{PlacedWords}
use Rattle.fts_token.specs.declared.indexed.IndexedWords.{IndexedWords}

-- the raw words of its text that an iterator has yet to give
unfoldable pub raw_words_left : RawWords → List Span
raw_words_left words = raw_words_from words.text.now words.at

-- the row that an iterator reads
abbrev pub columns_of : PlacedWords → List (List ℕ)
columns_of words = words.columns.now

-- the words of the columns behind the one that an iterator is in
unfoldable pub placed_words_behind : PlacedWords → List PlacedWord
placed_words_behind words =
    let columns = words.columns.now in
    placed_words_from (words.column + 1) (words.offset + length (column_text columns words.column) + 1)
    (drop (words.column + 1) columns)

-- the raw words of its row that an iterator has yet to give
unfoldable pub placed_words_left : PlacedWords → List PlacedWord
placed_words_left words =
    placed_spans words.column words.offset words.number
    (raw_words_from (column_text words.columns.now words.column) words.at)
    ++ placed_words_behind words

-- those of the raw words that an iterator has yet to give that are indexed
unfoldable pub indexed_among : Settings → PlacedWords → List PlacedWord
indexed_among settings words =
    filter (λ word. is_indexable (rules_of settings) (word_of words.columns.now word)) (placed_words_left words)

-- the indexed words of its row that an iterator has yet to give: those that it holds, and those behind them
unfoldable pub indexed_words_left : IndexedWords → List PlacedWord
indexed_words_left words = drop words.given (take words.held words.found) ++ indexed_among words.settings.now
    words.words
