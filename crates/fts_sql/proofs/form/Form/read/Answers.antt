use Rattle.std.proofs.Common.{IfOk, sym, subst}
use Rattle.fts_sql.specs.Grammar.{table_of}
use Rattle.fts_sql.specs.Reader.{tokens_at, IsRead}
use Rattle.fts_sql.proofs.form.Form.read.Goals as goal

pub returns-in-Match : goal.returns-in-Match
returns-in-Match c =
    subst (λ form. IfOk c.read-in-Match.result (λ reached. IsRead (table_of form) (tokens_at c.args.tokens.now) reached)) (sym c.in-Match.is) c.read-in-Match.ensures
