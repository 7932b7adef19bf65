use Rattle.std.specs.Prelude.{◌≡◌, ℕ, ◌^◌, ◌<◌, Bool, ◌==◌, ◌||◌, true, false, if◌then◌else◌, List, [], ◌∷◌, ◌++◌}
use Rattle.std.specs.Prelude.{length, codes}
use Rattle.std.specs.List.{list_all, list_any}
use Rattle.std.specs.Char.{is_ascii_digit}
use Rattle.std.specs.Str.Parse.{digits_value}
use Rattle.fts_words.specs.Byte.{is_word_byte}
use Rattle.fts_commits.specs.Text.{is_text_byte}

-- white space: space, tab and CR
abbrev pub is_blank : ℕ → Bool
is_blank b = (b == 32) || (b == 9) || (b == 13)

-- the bytes that are tokens by themselves
abbrev pub is_mark : ℕ → Bool
is_mark b = list_any (λ mark. mark == b) (codes "(),;=*.:")

-- what a line is made of: a name as written (a keyword is one too), a number, the text of a string, or one byte
pub data Token : Type 0 where
  name : List ℕ → Token
  number : ℕ → Token
  string : List ℕ → Token
  mark : ℕ → Token

-- a text as a string writes it: each apostrophe twice
abbrev pub quoted : List ℕ → List ℕ
quoted [] = []
quoted (b ∷ bs) = if b == 39 then 39 ∷ 39 ∷ quoted bs else b ∷ quoted bs

-- whether the first byte, if there is one, passes a test
abbrev pub begins_with : (ℕ → Bool) → List ℕ → Bool
begins_with test [] = false
begins_with test (b ∷ bs) = test b

-- front is the widest front of the bytes that passes a test, and rest is what follows it
pub record IsFront (test : ℕ → Bool) (bytes front rest : List ℕ) : Type 0 where
  pub cut : bytes ≡ front ++ rest
  pub passes : list_all test front ≡ true
  pub ends : begins_with test rest ≡ false

-- the bytes write the token: a name, its first byte no digit; a number below 2 ^ 64 in decimal digits; a string of
-- printable bytes and tabs between apostrophes
abbrev pub IsSpelling : Token → List ℕ → Type 0
IsSpelling (name word) bytes =
    (0 < length bytes) × (list_all is_word_byte bytes ≡ true) × (begins_with is_ascii_digit bytes ≡ false)
    × (bytes ≡ word)
IsSpelling (number n) bytes =
    (0 < length bytes) × (list_all is_ascii_digit bytes ≡ true) × (digits_value 10 bytes ≡ n) × (n < 2 ^ 64)
IsSpelling (string text) bytes = (bytes ≡ 39 ∷ (quoted text ++ 39 ∷ [])) × (list_all is_text_byte text ≡ true)
IsSpelling (mark b) bytes = (bytes ≡ b ∷ []) × (is_mark b ≡ true)

-- whether a byte behind the token would belong to it
abbrev pub goes_on : Token → ℕ → Bool
goes_on (name word) b = is_word_byte b
goes_on (number n) b = is_ascii_digit b
goes_on (string text) b = b == 39
goes_on (mark c) b = false

-- the bytes begin with the spelling of the token, as wide as it goes, and the rest follows
pub record IsToken (token : Token) (bytes spelling rest : List ℕ) : Type 0 where
  pub cut : bytes ≡ spelling ++ rest
  pub spelled : IsSpelling token spelling
  pub ends : begins_with (goes_on token) rest ≡ false
