use Rattle.std.specs.Prelude.{ℕ, ◌+◌, ◌-◌, ◌*◌, ◌/◌, ◌%◌, ◌^◌, ◌==◌, if◌then◌else◌, Bool, List, map, filter, nat_lt}
use Rattle.std.specs.Prelude.{slice_index, slice_index_or}
use Rattle.std.specs.List.{range_with_len, list_any}
use Rattle.std.specs.Int.{w64, from_le_bytes}
use Rattle.std.specs.Int.Bits.{bit_or}
use Rattle.fts_words.specs.Stopwords.{default_stopwords}

-- the first eight bytes of a word as a number, the first byte lowest
abbrev pub number_of : List ℕ → ℕ
number_of word = from_le_bytes w64 word

-- this is the number of a default stopword
abbrev pub is_stopword_number : ℕ → Bool
is_stopword_number number = list_any (λ word. number_of word == number) default_stopwords

-- a number below 64 for the number of a word
abbrev pub place_of : ℕ → ℕ
place_of number = number * 3264938476723030647 % 2 ^ 64 / 2 ^ 58

-- the number of the first default stopword that has this place, or that of the word `a`
abbrev pub number_at : ℕ → ℕ
number_at place = slice_index_or (filter (λ number. place_of number == place) (map number_of default_stopwords)) 0 97

-- the number at each place
unfoldable pub numbers : List ℕ
numbers = map number_at (range_with_len 0 64)

-- for each n up to 8, the number that has ones in its first n bytes
abbrev pub fronts : List ℕ
fronts = map (λ n. 2 ^ (8 * n) - 1) (range_with_len 0 9)

-- of a word that stands in a text, the byte at this place with the bit of lower-case letters set, or 0 behind the word
abbrev pub letter_at : List ℕ → ℕ → ℕ → ℕ → ℕ
letter_at text from len i = if nat_lt i len then bit_or (slice_index text (from + i)) 32 else 0
