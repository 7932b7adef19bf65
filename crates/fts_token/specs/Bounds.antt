use Rattle.std.specs.Prelude.{◌≡◌, ℕ, ◌+◌, ◌<◌, ◌≤◌, Bool, false, List, ◌∷◌, length, IsTrue, IsFalse}
use Rattle.fts_words.specs.declared.span.Span.{Span}
use Rattle.fts_words.specs.RawWords.{in_word, raw_words_from}
use Rattle.fts_token.specs.Bits.{has_bit, differ, one_before}

-- the place before this one belongs to a word
unfoldable pub is_inside : List ℕ → ℕ → Bool
is_inside text place = one_before false (in_word text) place

-- the place is a bound of a word: the first of its places, or the one behind its last
unfoldable pub is_bound : List ℕ → ℕ → Bool
is_bound text place = differ (in_word text place) (is_inside text place)

-- the bits say of the 64 places from `start` on which are bounds at `at` or behind it
pub record IsAhead (text : List ℕ) (at start bounds : ℕ) : Type 0 where
  pub near : start ≤ length text
  pub order : at ≤ start + 64
  -- no bound stands between `at` and the places that have bits
  pub none : (k : ℕ) → at ≤ k → k < start → IsFalse (is_bound text k)
  pub done : (j : ℕ) → j < 64 → start + j < at → IsFalse (has_bit bounds j)
  pub each : (j : ℕ) → j < 64 → at ≤ start + j → has_bit bounds j ≡ is_bound text (start + j)

-- the place is the first bound at `at` or behind it, and the bits are those of the bounds behind it
pub record IsNextBound (text : List ℕ) (at place start bounds : ℕ) : Type 0 where
  pub order : at ≤ place
  pub none : (k : ℕ) → at ≤ k → k < place → IsFalse (is_bound text k)
  pub bound : IsTrue (is_bound text place)
  pub ahead : IsAhead text (place + 1) start bounds

-- the word begins the raw words that start at `at` or behind it, and the bits are those of the bounds behind the word
pub record IsFound (text : List ℕ) (at : ℕ) (word : Span) (start bounds : ℕ) : Type 0 where
  pub first : raw_words_from text at ≡ word ∷ raw_words_from text (word.to + 1)
  pub order : at ≤ word.from
  pub some : word.from < word.to
  pub within : word.to ≤ length text
  pub outside : IsFalse (is_inside text (word.to + 1))
  pub ahead : IsAhead text (word.to + 1) start bounds
