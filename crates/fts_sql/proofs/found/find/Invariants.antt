use Rattle.std.proofs.Common.{ℕ, ◌<◌, ◌≤◌, length, take, get_or}
use Rattle.fts_sql.specs.declared.form.TheConstants.{FORMS}
use Rattle.fts_sql.specs.declared.form.Form.TheVariants.{Insert}
use Rattle.fts_sql.specs.Fault.{Viable}
use Rattle.fts_sql.specs.Reader.{tokens_at}
use Rattle.fts_sql.proofs.Written.{IsPast}
use Rattle.fts_sql.proofs.found.find.Given as goal

-- some statement begins with so many tokens, and none of the forms so far goes on behind them
abbrev pub invariant-loop-form : goal.invariant-loop-form
invariant-loop-form l = record {
  within : l.furthest ≤ length (tokens_at l.tokens);
  front : Viable (take l.furthest (tokens_at l.tokens));
  past : (k : ℕ) → k < l.form-index → IsPast (tokens_at l.tokens) l.furthest (get_or FORMS k Insert);
}
