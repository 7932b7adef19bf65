use Rattle.std.specs.Prelude.{ℕ, ◌+◌, ◌*◌, ◌-◌, Bool, not, ◌==◌, ◌&&◌, ◌||◌, nat_le, List, take, drop, fold}
use Rattle.std.specs.Prelude.{slice_index, if◌then◌else◌, Option, None, Some}
use Rattle.std.specs.List.{prefix_len}
use Rattle.std.specs.Char.{is_ascii_digit}
use Rattle.fts_words.specs.Byte.{word_at}

-- a space (32) or a tab (9)
abbrev pub is_blank : ℕ → Bool
is_blank byte = (byte == 32) || (byte == 9)

-- the value of decimal digits
abbrev pub decimal_value : List ℕ → ℕ
decimal_value digits = fold (λ value digit. value * 10 + (digit - 48)) 0 digits

-- what makes a phrase a distance: how many bytes it takes behind the closing quote, and its number
pub record Tail : Type 0 where
  pub len : ℕ
  pub number : ℕ

-- how many blanks stand at the front
abbrev pub blanks : List ℕ → ℕ
blanks behind = prefix_len is_blank behind

-- how many digits stand behind the byte behind the blanks, and these digits
abbrev pub digit_count : List ℕ → ℕ
digit_count behind = prefix_len is_ascii_digit (drop (blanks behind + 1) behind)

abbrev pub digits : List ℕ → List ℕ
digits behind = take (digit_count behind) (drop (blanks behind + 1) behind)

-- how many bytes there are from the front to the last of these digits
abbrev pub tail_len : List ℕ → ℕ
tail_len behind = blanks behind + 1 + digit_count behind

-- whether what stands behind a closing quote begins with the tail of a distance: blanks, an `@` (64), digits of a
-- value of at most 65,535, and then no word byte
abbrev pub has_tail : List ℕ → Bool
has_tail behind =
    (slice_index behind (blanks behind) == 64) && (nat_le 1 (digit_count behind)
    && (nat_le (decimal_value (digits behind)) 65535 && not (word_at behind (tail_len behind))))

-- that tail
unfoldable pub distance_tail : List ℕ → Option Tail
distance_tail behind =
    if has_tail behind then Some (record { len = tail_len behind; number = decimal_value (digits behind) }) else None
