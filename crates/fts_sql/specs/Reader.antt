use Rattle.std.specs.Prelude.{◌≡◌, ◌⊎◌, ◌↔◌, ℕ, ◌+◌, ◌<◌, ◌≤◌, Bool, ◌==◌, ◌&&◌, not, true, false, [], ◌∷◌, List, ◌++◌}
use Rattle.std.specs.Prelude.{Option, Some, None, if◌then◌else◌, length, map, take}
use Rattle.std.specs.List.{list_all}
use Rattle.std.specs.Str.{str_eq_ignore_ascii_case}
use Rattle.fts_sql.specs.Token.{Token}
use Rattle.fts_sql.specs.Line.{Placed, Ending, whole, unreadable}
use Rattle.fts_sql.specs.Fault.{Viable, IsMisplaced, IsCutShort, IsFaultAt}
use Rattle.fts_sql.specs.Reading.{token_of}
use Rattle.fts_sql.specs.Statement.{tokens_in, IsStatement, Writes}
use Rattle.fts_sql.specs.Grammar.{table_of}
use Rattle.fts_sql.specs.Table.{letters, is_piece, Are, Says, Part, Once, Optional, Repeated, parts_of}
use Rattle.fts_sql.specs.declared.piece.Piece.{Piece}
use Rattle.fts_sql.specs.declared.piece.Piece.TheVariants.{Keyword, Mark, Session}
use Rattle.fts_sql.specs.declared.line.Placed as code
use Rattle.fts_sql.specs.declared.reader.Step.{Step}
use Rattle.fts_sql.specs.declared.reader.Place as code_place
use Rattle.fts_sql.specs.declared.reader.Reached.{Reached}
use Rattle.fts_sql.specs.declared.found.Found.{Found}
use Rattle.fts_sql.specs.declared.found.Found.TheVariants.{Whole, Front}
use Rattle.fts_sql.specs.declared.parse.Said.{Said}
use Rattle.fts_sql.specs.declared.parse.Said.TheVariants.{Statement as SaysStatement, Fault as SaysFault}
use Rattle.fts_sql.specs.declared.statement.Statement.{Statement}

-- the tokens, as the definitions have them
abbrev pub tokens_at : List code.Placed → List Token
tokens_at tokens = map (λ p. token_of p.token) tokens

-- whether no token can stand where either does
abbrev pub are_apart : Piece → Piece → Bool
are_apart (Keyword word) (Keyword other) = not (str_eq_ignore_ascii_case (letters word) (letters other))
are_apart (Keyword word) (Mark b) = true
are_apart (Mark b) (Keyword word) = true
are_apart (Mark b) (Mark c) = not (b == c)
are_apart Session (Keyword word) = true
are_apart piece other = false

-- the pieces that tokens of these parts can begin with
abbrev pub first_of : List Piece → List Piece
first_of [] = []
first_of (piece ∷ pieces) = piece ∷ []

abbrev pub firsts : List Part → List Piece
firsts [] = []
firsts (Once piece ∷ parts) = piece ∷ []
firsts (Optional pieces ∷ parts) = first_of pieces ++ firsts parts
firsts (Repeated pieces ∷ parts) = first_of pieces ++ firsts parts

-- whether the first token tells these pieces from what may follow them
abbrev pub are_told : List Piece → List Piece → Bool
are_told [] others = false
are_told (piece ∷ pieces) others = list_all (are_apart piece) others

-- whether parts can be read from the left, with no look ahead
abbrev pub is_table : List Part → Bool
is_table [] = true
is_table (Once piece ∷ parts) = is_table parts
is_table (Optional pieces ∷ parts) = are_told pieces (firsts parts) && is_table parts
is_table (Repeated pieces ∷ parts) = are_told pieces (firsts parts) && is_table parts

-- a place in a table: the pieces that are left of a part, and the parts behind it
pub record Spot : Type 0 where
  pub begun : List Piece
  pub ahead : List Part

abbrev pub spot_of : code_place.Place → Spot
spot_of place = record { begun = place.begun.now; ahead = parts_of place.ahead.now }

-- what the tokens from a place on take
abbrev pub SaysFrom : Spot → List Token → List Token → List Token → Type 0
SaysFrom spot all = Are spot.begun (Says spot.ahead all)

-- the piece of a token that stands where these pieces begin, and the place behind it
abbrev pub begin : List Piece → List Part → Token → Option (Piece × Spot)
begin [] ahead token = None
begin (piece ∷ pieces) ahead token =
    if is_piece piece token then Some (piece, record { begun = pieces; ahead = ahead }) else None

abbrev pub or_else : Option (Piece × Spot) → Option (Piece × Spot) → Option (Piece × Spot)
or_else None other = other
or_else (Some step) other = Some step

-- of one that stands where parts begin
abbrev pub enter : List Part → Token → Option (Piece × Spot)
enter [] token = None
enter (Once piece ∷ parts) token = begin (piece ∷ []) parts token
enter (Optional pieces ∷ parts) token = or_else (begin pieces parts token) (enter parts token)
enter (Repeated pieces ∷ parts) token = or_else (begin pieces (Repeated pieces ∷ parts) token) (enter parts token)

-- of one that stands at a place
abbrev pub behind : List Piece → List Part → Token → Option (Piece × Spot)
behind [] ahead token = enter ahead token
behind (piece ∷ pieces) ahead token = begin (piece ∷ pieces) ahead token

abbrev pub step_of : Step → Piece × Spot
step_of step = (step.piece, spot_of step.place)

-- whether tokens can end where parts begin
abbrev pub can_end : List Part → Bool
can_end [] = true
can_end (Once piece ∷ parts) = false
can_end (Optional pieces ∷ parts) = can_end parts
can_end (Repeated pieces ∷ parts) = can_end parts

-- whether they can end at a place
abbrev pub ends : List Piece → List Part → Bool
ends [] ahead = can_end ahead
ends (piece ∷ pieces) ahead = false

-- some tokens of the table begin with these
abbrev pub Begins : List Part → List Token → Type 0
Begins table tokens = (all more : List Token) × Says table all (tokens ++ more) []

-- so many of the first tokens, and no more, are a front of the table's, and what is taken if they are all of them
pub record IsReached (table : List Part) (tokens : List Token) (count : ℕ) (taken : List Token) (whole : Bool)
    : Type 0 where
  pub within : count ≤ length tokens
  pub front : Begins table (take count tokens)
  pub stops : count < length tokens → Begins table (take (count + 1) tokens) → ⊥
  pub says : (all : List Token) → Says table all tokens [] ↔ ((whole ≡ true) × (taken ≡ all))

-- the same of what was read
abbrev pub IsRead : List Part → List Token → Reached → Type 0
IsRead table tokens reached =
    IsReached table tokens reached.count (map token_of reached.taken.items) reached.whole

-- so many of the first tokens begin some statement, and no more do
pub record IsFurthest (tokens : List Token) (count : ℕ) : Type 0 where
  pub within : count ≤ length tokens
  pub front : Viable (take count tokens)
  pub stops : count < length tokens → Viable (take (count + 1) tokens) → ⊥
  pub none : (statement : Statement) → Writes statement tokens → ⊥

-- the form that the tokens are of and what it takes, or how far they begin a statement
abbrev pub IsFoundIn : List Token → Found → Type 0
IsFoundIn tokens (Whole form taken) = Says (table_of form) (map token_of taken.items) tokens []
IsFoundIn tokens (Front count) = IsFurthest tokens count

-- the place where the tokens end
abbrev pub end_place : Ending → ℕ
end_place (whole at) = at
end_place (unreadable at) = at

-- the place of the first token that no statement can have there, or, where there is none, of the tokens' end
abbrev pub IsPlaceIn : List Placed → Ending → ℕ → Type 0
IsPlaceIn tokens ending at = IsMisplaced tokens at
    ⊎ (Viable (tokens_in tokens) × ((at ≡ end_place ending)
    × ((statement : Statement) → Writes statement (tokens_in tokens) → ⊥)))

-- what the tokens of a line say, which end so, by cases
abbrev pub SaysIn : List Placed → Ending → Said → Type 0
SaysIn tokens ending (SaysStatement statement) = ((end : ℕ) × (ending ≡ whole end))
    × Writes statement (tokens_in tokens)
SaysIn tokens ending (SaysFault at) = IsMisplaced tokens at ⊎ IsCutShort tokens ending at

-- what a line says that is not blank, by cases
abbrev pub SaysLine : List ℕ → Said → Type 0
SaysLine line (SaysStatement statement) = IsStatement line statement
SaysLine line (SaysFault at) = IsFaultAt line at

-- whether the bytes begin with `--`
abbrev pub is_comment : List ℕ → Bool
is_comment [] = false
is_comment (b ∷ []) = false
is_comment (b ∷ c ∷ bytes) = (b == 45) && (c == 45)
