use Rattle.std.proofs.Common.{◌≡◌, ◌++◌, drop, map}
use Rattle.fts_sql.specs.Reading.{token_of}
use Rattle.fts_sql.specs.Statement.{strings_in}
use Rattle.fts_sql.proofs.copy.copy_strings.Given as goal

-- the texts so far, and then those among the rest
abbrev pub invariant-loop-token : goal.invariant-loop-token
invariant-loop-token l = strings_in (map token_of l.fn.tokens) ≡ l.texts ++ strings_in (map token_of (drop l.token-index l.fn.tokens))
