use Rattle.std.proofs.Common.{◌≡◌, ◌≤◌, ◌+◌, ◌++◌, ℕ, List, length, map}
use Rattle.fts_sql.specs.Line.{Placed, Ending, Reads}
use Rattle.fts_sql.specs.Reading.{placed_of}
use Rattle.fts_sql.proofs.line.read_line.Given as goal

-- the line is the tokens so far, and then those of the rest
abbrev pub invariant-loop-piece : goal.invariant-loop-piece
invariant-loop-piece l = record {
  within : length l.rest ≤ length l.fn.line;
  so_far : (place : ℕ) (more : List Placed) (ending : Ending) → place + length l.rest ≡ length l.fn.line + 1
      → Reads place l.rest more ending → Reads 1 l.fn.line (map placed_of l.tokens.items ++ more) ending;
}

abbrev pub decreases-loop-piece : goal.decreases-loop-piece
decreases-loop-piece l = length l.rest
