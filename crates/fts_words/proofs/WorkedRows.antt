-- Words of small texts, worked out by hand: what the definitions compute.
use Rattle.std.proofs.Common.{◌≡◌, ℕ, false, true, [], ◌∷◌, refl}
use Rattle.std.specs.Prelude.{codes, replicate}
use Rattle.fts_words.specs.declared.span.Span.{Span}
use Rattle.fts_words.specs.declared.placed.PlacedWord.{PlacedWord}
use Rattle.fts_words.specs.Byte.{word_at, apostrophe_at}
use Rattle.fts_words.specs.Run.{runs_from}
use Rattle.fts_words.specs.RawWords.{in_word, raw_words}
use Rattle.fts_words.specs.Stopwords.{default_stopwords}
use Rattle.fts_words.specs.Indexed.{Rules, is_indexable, placed_words, indexed_words}

span : ℕ → ℕ → Span
span from to = record { from = from; to = to }

word : ℕ → ℕ → ℕ → ℕ → ℕ → PlacedWord
word column from to number position =
    record { column = column; span = record { from = from; to = to }; number = number; position = position }

standard : Rules
standard = record { min = 3; max = 84; stopwords = default_stopwords }

without_stopwords : Rules
without_stopwords = record { min = 3; max = 84; stopwords = [] }

nothing : Rules
nothing = record { min = 12; max = 10; stopwords = [] }

inner_apostrophe : raw_words (codes "aaa'bbb") ≡ span 0 7 ∷ []
unfolding word_at apostrophe_at in_word runs_from span
inner_apostrophe = refl

two_apostrophes : raw_words (codes "aaa''bbb") ≡ span 0 3 ∷ span 5 8 ∷ []
unfolding word_at apostrophe_at in_word runs_from span
two_apostrophes = refl

outer_apostrophes : raw_words (codes "'aaa'bbb'") ≡ span 1 8 ∷ []
unfolding word_at apostrophe_at in_word runs_from span
outer_apostrophes = refl

no_word : raw_words (codes " ' -") ≡ []
unfolding word_at apostrophe_at in_word runs_from
no_word = refl

positions : indexed_words standard (codes "The apple, the juice" ∷ []) ≡ word 0 4 9 1 4 ∷ word 0 15 20 3 15 ∷ []
unfolding word_at apostrophe_at in_word runs_from placed_words default_stopwords standard word
positions = refl

too_short : indexed_words standard (codes "ab abc" ∷ []) ≡ word 0 3 6 1 3 ∷ []
unfolding word_at apostrophe_at in_word runs_from placed_words default_stopwords standard word
too_short = refl

longest : is_indexable standard (replicate 84 120) ≡ true
unfolding default_stopwords standard
longest = refl

too_long : is_indexable standard (replicate 85 120) ≡ false
unfolding standard
too_long = refl

two_columns : indexed_words standard (codes "a test" ∷ codes "phrase b" ∷ []) ≡ word 0 2 6 1 2 ∷ word 1 0 6 0 7 ∷ []
unfolding word_at apostrophe_at in_word runs_from placed_words default_stopwords standard word
two_columns = refl

empty_column : indexed_words standard ([] ∷ codes "pear" ∷ []) ≡ word 1 0 4 0 1 ∷ []
unfolding word_at apostrophe_at in_word runs_from placed_words default_stopwords standard word
empty_column = refl

stopwords_off : indexed_words without_stopwords (codes "The pie" ∷ []) ≡ word 0 0 3 0 0 ∷ word 0 4 7 1 4 ∷ []
unfolding word_at apostrophe_at in_word runs_from placed_words without_stopwords word
stopwords_off = refl

least_above_greatest : indexed_words nothing (codes "apple abcdefghijkl" ∷ []) ≡ []
unfolding word_at apostrophe_at in_word runs_from placed_words nothing
least_above_greatest = refl
