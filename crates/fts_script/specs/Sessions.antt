-- The sessions of a script: whose each line is, and of which sessions some lines are.
use Rattle.std.specs.Prelude.{◌≡◌, ◌==◌, ◌≤◌, ℕ, if◌then◌else◌, List, [], ◌∷◌, ◌++◌, length, Option, Some, None}
use Rattle.fts_io.specs.Text.{Line, whole, too_long}
use Rattle.fts_sql.specs.Session.{IsSession}

-- whose line it is: nobody's where it is blank or a comment; one that is too long is session 1's
abbrev pub IsOf : Line → Option ℕ → Type 0
IsOf (whole bytes) session = IsSession bytes session
IsOf too_long session = session ≡ Some 1

-- the numbers of sessions, with one more
abbrev pub among : List ℕ → ℕ → List ℕ
among [] number = number ∷ []
among (one ∷ numbers) number = if one == number then one ∷ numbers else one ∷ among numbers number

abbrev pub joined_by : List ℕ → Option ℕ → List ℕ
joined_by numbers None = numbers
joined_by numbers (Some number) = among numbers number

-- behind these sessions the lines are of those, and of no more
abbrev pub AreOf : List ℕ → List Line → List ℕ → Type 0
AreOf numbers [] all = all ≡ numbers
AreOf numbers (line ∷ lines) all =
    (session : Option ℕ) × IsOf line session × AreOf (joined_by numbers session) lines all

-- one of the lines is the first of a 17th session, which has this number
pub record IsCrowded (lines : List Line) (number : ℕ) : Type 0 where
  pub earlier : List Line
  pub line : Line
  pub behind : List Line
  pub numbers : List ℕ
  pub cut : lines ≡ earlier ++ line ∷ behind
  pub are : AreOf [] earlier numbers
  pub many : length numbers ≡ 16
  pub of : IsOf line (Some number)
  pub more : length (among numbers number) ≡ 17

-- the lines are of 16 sessions at most
abbrev pub HasFewSessions : List Line → Type 0
HasFewSessions lines = (numbers : List ℕ) × AreOf [] lines numbers × (length numbers ≤ 16)
