use Rattle.std.proofs.Common.{◌≡◌, ℕ, List, subst}
use Rattle.fts_sql.specs.Line.{whole}
use Rattle.fts_sql.specs.Statement.{Writes, tokens_in, IsStatement}
use Rattle.fts_sql.specs.declared.statement.Statement.{Statement}
use Rattle.fts_sql.proofs.Readings.{one_reading}
use Rattle.fts_sql.proofs.Written.{one_writing}

-- a line says at most one statement
pub one_statement : (line : List ℕ) (one other : Statement) → IsStatement line one → IsStatement line other → one ≡ other
one_statement line one other a b =
    let same = one_reading 1 line a.0 b.0 (whole a.1) (whole b.1) a.2 b.2 in
    one_writing (tokens_in b.0) one other (subst (λ ts. Writes one (tokens_in ts)) same.0 a.3) b.3
