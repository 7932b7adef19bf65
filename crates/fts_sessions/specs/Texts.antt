use Rattle.std.specs.Prelude.{◌<◌, ◌^◌, List, All}
use Rattle.fts_commits.specs.Fits.{IsText}
use Rattle.fts_sql.specs.declared.statement.Statement.{Statement}
use Rattle.fts_sql.specs.declared.statement.Statement.TheVariants.{Insert, Update, Delete}
use Rattle.fts_sql.specs.declared.value.Value.{Value}
use Rattle.fts_sql.specs.declared.value.Value.TheVariants.{Number, Text}

-- a value that can stand in a row: a number has eight bytes, and a text the bytes of texts
abbrev pub IsFit : Value → Type 0
IsFit (Number n) = n < 2 ^ 64
IsFit (Text text) = IsText text

-- values that can stand in a row
abbrev pub AreFit : List Value → Type 0
AreFit values = All IsFit values

-- a statement whose numbers have eight bytes, and whose texts the bytes of texts
abbrev pub IsFitStatement : Statement → Type 0
IsFitStatement (Insert table names values) = AreFit values
IsFitStatement (Update table names texts key) = All IsText texts × (key < 2 ^ 64)
IsFitStatement (Delete table key) = key < 2 ^ 64
IsFitStatement other = Unit {0}
