use Rattle.std.proofs.Common.{◌≡◌, drop, map}
use Rattle.fts_sql.specs.Reading.{token_of}
use Rattle.fts_sql.specs.Statement.{first_number}
use Rattle.fts_sql.proofs.copy.first_number.Given as goal

-- the first number is the first of the rest
abbrev pub invariant-loop-token : goal.invariant-loop-token
invariant-loop-token l = first_number (map token_of l.fn.tokens) ≡ first_number (map token_of (drop l.token-index l.fn.tokens))
