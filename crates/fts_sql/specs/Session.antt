-- The session that a line counts for.
use Rattle.std.specs.Prelude.{◌≡◌, ◌⊎◌, ℕ, ◌==◌, ◌&&◌, true, if◌then◌else◌, List, ◌∷◌, ◌++◌, Option, Some, None}
use Rattle.std.specs.List.{list_all}
use Rattle.fts_sql.specs.Token.{Token, number, mark, is_blank, IsSpelling}
use Rattle.fts_sql.specs.Line.{IsBlank}
use Rattle.fts_sql.specs.Table.{is_session}

-- the line begins with the number of a session and `:`, with blanks before either
pub record IsNumbered (line : List ℕ) (session : ℕ) : Type 0 where
  pub before : List ℕ
  pub digits : List ℕ
  pub between : List ℕ
  pub rest : List ℕ
  pub cut : line ≡ before ++ (digits ++ (between ++ 58 ∷ rest))
  pub blank_before : list_all is_blank before ≡ true
  pub blank_between : list_all is_blank between ≡ true
  pub spelled : IsSpelling (number session) digits
  pub is : is_session session ≡ true

-- the session of a line: none where it is blank or a comment; else that whose number it begins with; else session 1
abbrev pub IsSession : List ℕ → Option ℕ → Type 0
IsSession line None = IsBlank line
IsSession line (Some session) = (IsBlank line → ⊥)
    × (IsNumbered line session ⊎ ((session ≡ 1) × ((number : ℕ) → IsNumbered line number → ⊥)))

-- the session that tokens begin with the number of, or session 1
abbrev pub session_in : List Token → ℕ
session_in (number n ∷ mark b ∷ tokens) = if is_session n && (b == 58) then n else 1
session_in tokens = 1
