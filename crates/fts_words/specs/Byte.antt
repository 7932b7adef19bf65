use Rattle.std.specs.Prelude.{ℕ, Bool, ◌||◌, List, map, slice_index, ◌==◌}
use Rattle.std.specs.Char.{is_ascii_alphanumeric, to_ascii_lowercase}

-- a word byte is an ASCII letter, a digit or `_` (95)
abbrev pub is_word_byte : ℕ → Bool
is_word_byte byte = is_ascii_alphanumeric byte || (byte == 95)

-- the text has a word byte at this place; it has none behind its end
unfoldable pub word_at : List ℕ → ℕ → Bool
word_at text place = is_word_byte (slice_index text place)

-- the text has an apostrophe (39) at this place
unfoldable pub apostrophe_at : List ℕ → ℕ → Bool
apostrophe_at text place = slice_index text place == 39

-- a word's bytes with their letters lowered
abbrev pub lowered : List ℕ → List ℕ
lowered word = map to_ascii_lowercase word
