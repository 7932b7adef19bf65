use Rattle.std.specs.Prelude.{◌≡◌, ◌⊎◌, ℕ, List, [], ◌∷◌, ◌++◌}
use Rattle.fts_sql.specs.declared.statement.Statement.{Statement}
use Rattle.fts_sql.specs.Token.{Token}
use Rattle.fts_sql.specs.Line.{Placed, placed, Ending, whole, unreadable, Reads, IsBlank}
use Rattle.fts_sql.specs.Statement.{Writes, tokens_in}

-- some statement begins with the tokens
abbrev pub Viable : List Token → Type 0
Viable tokens = (statement : Statement) × (more : List Token) × Writes statement (tokens ++ more)

-- a token that no statement can have behind the tokens before it, which some statement begins with
pub record IsMisplaced (tokens : List Placed) (at : ℕ) : Type 0 where
  pub front : List Placed
  pub one : Token
  pub behind : List Placed
  pub cut : tokens ≡ front ++ placed at one ∷ behind
  pub before : Viable (tokens_in front)
  pub no_more : Viable (tokens_in front ++ one ∷ []) → ⊥

-- the tokens are a front of some statement, and then comes something that is no token, or the line ends too early
pub record IsCutShort (tokens : List Placed) (ending : Ending) (at : ℕ) : Type 0 where
  pub front : Viable (tokens_in tokens)
  pub here : (ending ≡ unreadable at) ⊎ ((ending ≡ whole at)
      × ((statement : Statement) → Writes statement (tokens_in tokens) → ⊥))

-- the line is not blank, and its fault lies at this place, from 1: at the first token that no statement can have there,
-- or at the faulty byte of what is no token, or, where the line ends too early, behind its last byte
pub record IsFaultAt (line : List ℕ) (at : ℕ) : Type 0 where
  pub not_blank : IsBlank line → ⊥
  pub tokens : List Placed
  pub ending : Ending
  pub reads : Reads 1 line tokens ending
  pub fault : IsMisplaced tokens at ⊎ IsCutShort tokens ending at
