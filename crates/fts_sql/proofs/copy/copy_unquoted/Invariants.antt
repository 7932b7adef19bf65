use Rattle.std.proofs.Common.{◌≡◌, ◌++◌, length}
use Rattle.fts_sql.specs.Reading.{unquoted}
use Rattle.fts_sql.proofs.copy.copy_unquoted.Given as goal

-- the text so far, and then that of the rest
abbrev pub invariant-loop-front : goal.invariant-loop-front
invariant-loop-front l = unquoted l.fn.written ≡ l.text.items ++ unquoted l.rest

abbrev pub decreases-loop-front : goal.decreases-loop-front
decreases-loop-front l = length l.rest
