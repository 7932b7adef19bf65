use Rattle.std.specs.Prelude.{◌≡◌, ◌⊎◌, ℕ, ◌^◌, ◌+◌, ◌≤◌, Bool, ◌==◌, ◌||◌, not, true, false, List, [], ◌∷◌, ◌++◌}
use Rattle.std.specs.Prelude.{length}
use Rattle.std.specs.List.{list_all}
use Rattle.std.specs.Char.{is_ascii_digit}
use Rattle.std.specs.Str.Parse.{digits_value}
use Rattle.fts_words.specs.Byte.{is_word_byte}
use Rattle.fts_commits.specs.Text.{is_text_byte}
use Rattle.fts_sql.specs.Token.{Token, quoted, is_blank, is_mark, begins_with, IsFront, IsToken}

-- a blank line: white space alone, or a comment, which begins with `--` behind white space
abbrev pub IsBlank : List ℕ → Type 0
IsBlank line =
    (list_all is_blank line ≡ true)
    ⊎ ((blanks comment : List ℕ) × (list_all is_blank blanks ≡ true) × (line ≡ blanks ++ 45 ∷ 45 ∷ comment))

-- whether a byte is neither white space nor the first of a token
abbrev pub is_stray : ℕ → Bool
is_stray b = not (is_blank b || is_word_byte b || is_mark b || (b == 39))

-- digits that write a number of 2 ^ 64 or more
pub record IsTooLarge (bytes : List ℕ) : Type 0 where
  pub digits : List ℕ
  pub rest : List ℕ
  pub front : IsFront is_ascii_digit bytes digits rest
  pub large : 2 ^ 64 ≤ digits_value 10 digits

-- a string that does not end: behind its apostrophe there are only bytes of its text
pub record IsUnended (bytes : List ℕ) : Type 0 where
  pub text : List ℕ
  pub cut : bytes ≡ 39 ∷ quoted text
  pub printable : list_all is_text_byte text ≡ true

-- a string that holds, so many bytes from its apostrophe, a byte that no string may hold
pub record IsSpoilt (bytes : List ℕ) (offset : ℕ) : Type 0 where
  pub text : List ℕ
  pub bad : ℕ
  pub rest : List ℕ
  pub cut : bytes ≡ 39 ∷ (quoted text ++ bad ∷ rest)
  pub printable : list_all is_text_byte text ≡ true
  pub is_bad : is_text_byte bad ≡ false
  pub place : offset ≡ 1 + length (quoted text)

-- the bytes begin with something that is no token; the fault lies so many bytes from their first
abbrev pub IsUnreadable : List ℕ → ℕ → Type 0
IsUnreadable bytes offset =
    ((offset ≡ 0) × (begins_with is_stray bytes ≡ true))
    ⊎ (((offset ≡ 0) × IsTooLarge bytes)
    ⊎ (((offset ≡ 0) × IsUnended bytes)
    ⊎ IsSpoilt bytes offset))

-- a token, and the place of its first byte
pub data Placed : Type 0 where
  placed : ℕ → Token → Placed

-- where a line's tokens end: at its end, or at something that is no token; with the place behind the line's last byte,
-- or of the faulty byte
pub data Ending : Type 0 where
  whole : ℕ → Ending
  unreadable : ℕ → Ending

-- the bytes, of which the first has this place in its line, are these tokens, each as wide as it goes, with blanks
-- before, between and behind them, and end so
abbrev pub Reads : ℕ → List ℕ → List Placed → Ending → Type 0
Reads place bytes [] (whole at) = (list_all is_blank bytes ≡ true) × (at ≡ place + length bytes)
Reads place bytes [] (unreadable at) =
    (blanks piece : List ℕ) × (offset : ℕ) × (bytes ≡ blanks ++ piece) × (list_all is_blank blanks ≡ true)
    × IsUnreadable piece offset × (at ≡ place + length blanks + offset)
Reads place bytes (placed at token ∷ more) ending =
    (blanks piece spelling rest : List ℕ) × (bytes ≡ blanks ++ piece) × (list_all is_blank blanks ≡ true)
    × IsToken token piece spelling rest × (at ≡ place + length blanks)
    × Reads (place + length blanks + length spelling) rest more ending
