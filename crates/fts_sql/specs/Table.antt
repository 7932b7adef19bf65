use Rattle.std.specs.Prelude.{◌≡◌, ◌⊎◌, ℕ, zero, suc, nat_le, Bool, ◌==◌, ◌&&◌, true, false, List, [], ◌∷◌, ◌++◌}
use Rattle.std.specs.Prelude.{codes, map}
use Rattle.std.specs.Str.{str_eq_ignore_ascii_case}
use Rattle.fts_sql.specs.Token.{Token, name, number, string, mark}
use Rattle.fts_sql.specs.declared.word.Word.{Word}
use Rattle.fts_sql.specs.declared.word.Word.TheVariants as word
use Rattle.fts_sql.specs.declared.piece.Piece.{Piece}
use Rattle.fts_sql.specs.declared.piece.Piece.TheVariants.{Keyword, Mark, Name, Number, String, Value, Session}
use Rattle.fts_sql.specs.declared.piece.Part as code
use Rattle.fts_sql.specs.declared.piece.Part.TheVariants as part

-- a keyword's letters, in lower case
abbrev pub letters : Word → List ℕ
letters word.Against = codes "against"
letters word.Begin = codes "begin"
letters word.Boolean = codes "boolean"
letters word.Commit = codes "commit"
letters word.Delete = codes "delete"
letters word.From = codes "from"
letters word.FtsDocId = codes "fts_doc_id"
letters word.Id = codes "id"
letters word.In = codes "in"
letters word.Insert = codes "insert"
letters word.Into = codes "into"
letters word.Match = codes "match"
letters word.Mode = codes "mode"
letters word.Optimize = codes "optimize"
letters word.Rollback = codes "rollback"
letters word.Select = codes "select"
letters word.Set = codes "set"
letters word.Start = codes "start"
letters word.Sync = codes "sync"
letters word.Table = codes "table"
letters word.Transaction = codes "transaction"
letters word.Update = codes "update"
letters word.Values = codes "values"
letters word.Where = codes "where"

-- whether a number is one of a session: 1 to 65,535
abbrev pub is_session : ℕ → Bool
is_session n = nat_le 1 n && nat_le n 65535

-- whether the token can stand where the piece is: a keyword in any case
abbrev pub is_piece : Piece → Token → Bool
is_piece (Keyword w) (name written) = str_eq_ignore_ascii_case written (letters w)
is_piece (Mark b) (mark c) = b == c
is_piece Name (name written) = true
is_piece Number (number n) = true
is_piece String (string text) = true
is_piece Value (number n) = true
is_piece Value (string text) = true
is_piece Session (number n) = is_session n
is_piece piece other = false

-- what a statement takes of a line: all but keywords, marks and a session's number, behind what it has taken so far
abbrev pub taken_by : Piece → Token → List Token → List Token
taken_by (Keyword w) token taken = taken
taken_by (Mark b) token taken = taken
taken_by Session token taken = taken
taken_by other token taken = taken ++ token ∷ []

-- the tokens are these pieces, and then the rest
abbrev pub Are : List Piece → (List Token → List Token → Type 0) → List Token → List Token → Type 0
Are [] Rest tokens taken = Rest tokens taken
Are (piece ∷ pieces) Rest tokens taken =
    (first : Token) × (more : List Token) × (tokens ≡ first ∷ more) × (is_piece piece first ≡ true)
    × Are pieces Rest more (taken_by piece first taken)

-- they are these pieces, so many times, and then the rest
abbrev pub Often : ℕ → List Piece → (List Token → List Token → Type 0) → List Token → List Token → Type 0
Often zero pieces Rest = Rest
Often (suc n) pieces Rest = Are pieces (Often n pieces Rest)

-- a part of a table: this piece; these pieces, or nothing; these pieces, as often as one likes
pub data Part : Type 0 where
  Once : Piece → Part
  Optional : List Piece → Part
  Repeated : List Piece → Part

abbrev pub part_of : code.Part → Part
part_of (part.Once piece) = Once piece
part_of (part.Optional piece) = Optional (piece ∷ [])
part_of (part.OptionalPair pieces) = Optional pieces
part_of (part.Pairs pieces) = Repeated pieces
part_of (part.Fours pieces) = Repeated pieces

abbrev pub parts_of : List code.Part → List Part
parts_of parts = map part_of parts

-- the tokens are a table's parts, one after another, and what is taken of them, behind what was taken so far, is all
abbrev pub Says : List Part → List Token → List Token → List Token → Type 0
Says [] all tokens taken = (tokens ≡ []) × (taken ≡ all)
Says (Once piece ∷ parts) all tokens taken = Are (piece ∷ []) (Says parts all) tokens taken
Says (Optional pieces ∷ parts) all tokens taken = Are pieces (Says parts all) tokens taken ⊎ Says parts all tokens taken
Says (Repeated pieces ∷ parts) all tokens taken = (n : ℕ) × Often n pieces (Says parts all) tokens taken
