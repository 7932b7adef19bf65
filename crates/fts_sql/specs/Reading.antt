use Rattle.std.specs.Prelude.{◌≡◌, ℕ, Bool, ◌==◌, true, false, if◌then◌else◌, List, [], ◌∷◌, ◌++◌, Option, Some, None}
use Rattle.std.specs.List.{list_all}
use Rattle.std.specs.Char.{is_ascii_digit}
use Rattle.fts_words.specs.Byte.{is_word_byte}
use Rattle.fts_commits.specs.Text.{is_text_byte}
use Rattle.fts_sql.specs.Token as spec
use Rattle.fts_sql.specs.Token.{is_blank, quoted, begins_with, IsToken}
use Rattle.fts_sql.specs.Line as lines
use Rattle.fts_sql.specs.Line.{IsUnreadable, placed, whole, unreadable}
use Rattle.fts_sql.specs.declared.run.Class.{Class}
use Rattle.fts_sql.specs.declared.run.Class.TheVariants.{Blank, Word, Digit}
use Rattle.fts_sql.specs.declared.token.Token.{Token}
use Rattle.fts_sql.specs.declared.token.Token.TheVariants.{Name, Number, String, Mark}
use Rattle.fts_sql.specs.declared.token.Next.{Next}
use Rattle.fts_sql.specs.declared.token.Next.TheVariants.{Token as Read, Unreadable}
use Rattle.fts_sql.specs.declared.line.Placed.{Placed}
use Rattle.fts_sql.specs.declared.line.Ending.{Ending}
use Rattle.fts_sql.specs.declared.line.Ending.TheVariants.{Whole, Unreadable as EndsUnreadable}

-- whether the byte is in the class
abbrev pub is_in : Class → ℕ → Bool
is_in Blank b = is_blank b
is_in Word b = is_word_byte b
is_in Digit b = is_ascii_digit b

-- the text of a string from what stands between its apostrophes
abbrev pub unquoted : List ℕ → List ℕ
unquoted [] = []
unquoted (b ∷ []) = b ∷ []
unquoted (b ∷ c ∷ bs) = if b == 39 then 39 ∷ unquoted bs else b ∷ unquoted (c ∷ bs)

-- the token, as the definitions have it
abbrev pub token_of : Token → spec.Token
token_of (Name word) = spec.name word.now
token_of (Number n) = spec.number n
token_of (String written) = spec.string (unquoted written.now)
token_of (Mark b) = spec.mark b

-- the token with its place, as the definitions have it
abbrev pub placed_of : Placed → lines.Placed
placed_of one = placed one.at (token_of one.token)

-- the end of the tokens, as the definitions have it
abbrev pub ending_of : Ending → lines.Ending
ending_of (Whole at) = whole at
ending_of (EndsUnreadable at) = unreadable at

-- what stands first in the bytes, by cases
abbrev pub IsNext : List ℕ → Next → Type 0
IsNext bytes (Read one rest) = (spelling : List ℕ) × IsToken (token_of one) bytes spelling rest.now
IsNext bytes (Unreadable offset) = IsUnreadable bytes offset

-- whether a string that has come so far goes on with a byte of its text
abbrev pub goes_on_text : List ℕ → Bool
goes_on_text [] = false
goes_on_text (b ∷ bs) = if b == 39 then begins_with (λ c. c == 39) bs else is_text_byte b

-- a string's text, as it is written behind the opening apostrophe, as wide as it goes
pub record IsText (bytes written rest : List ℕ) : Type 0 where
  pub text : List ℕ
  pub cut : bytes ≡ written ++ rest
  pub is_quoted : written ≡ quoted text
  pub printable : list_all is_text_byte text ≡ true
  pub stops : goes_on_text rest ≡ false

-- the first byte of a string's text, and what follows it; or the text does not go on
abbrev pub IsPiece : List ℕ → Option (List ℕ) → Type 0
IsPiece bytes None = goes_on_text bytes ≡ false
IsPiece bytes (Some rest) = (b : ℕ) × (bytes ≡ quoted (b ∷ []) ++ rest) × (is_text_byte b ≡ true)
