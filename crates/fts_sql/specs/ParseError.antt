use Rattle.std.specs.Prelude.{ℕ, List, ◌++◌, codes, decimal}
use Rattle.fts_sql.specs.declared.statement.ParseError.{ParseError}
use Rattle.fts_sql.specs.declared.statement.ParseError.TheVariants.{NoMemory, Syntax}

-- what an error prints
abbrev pub error_text : ParseError → List ℕ
error_text NoMemory = codes "no memory"
error_text (Syntax at) = codes "syntax at " ++ decimal at
