use Rattle.std.specs.Prelude.{◌≡◌, ℕ, ◌+◌, ◌-◌, ◌<◌, ◌≤◌, ◌||◌, ◌&&◌, List, IsTrue, IsFalse}
use Rattle.fts_words.specs.Byte.{word_at, apostrophe_at}

-- The bytes of the text from a place up to another are a raw word (MySQL 8.0 manual, "Natural Language
-- Full-Text Searches"): word bytes that may hold single apostrophes between them, as wide as possible.
pub record IsRawWord (text : List ℕ) (from to : ℕ) : Type 0 where
  -- it has a byte
  pub nonempty : from < to
  -- each of its bytes is a word byte or an apostrophe
  pub bytes : (i : ℕ) → from ≤ i → i < to → IsTrue (word_at text i || apostrophe_at text i)
  -- its first byte and its last are word bytes
  pub first : IsTrue (word_at text from)
  pub last : IsTrue (word_at text (to - 1))
  -- no two apostrophes in it adjoin
  pub single : (i : ℕ) → from ≤ i → i + 1 < to → IsFalse (apostrophe_at text i && apostrophe_at text (i + 1))
  -- no word byte stands directly beside it
  pub left : (i : ℕ) → i + 1 ≡ from → IsFalse (word_at text i)
  pub right : IsFalse (word_at text to)
  -- nor one directly beyond a single apostrophe beside it
  pub left_beyond : (i : ℕ) → i + 2 ≡ from → IsFalse (word_at text i && apostrophe_at text (i + 1))
  pub right_beyond : IsFalse (apostrophe_at text to && word_at text (to + 1))
