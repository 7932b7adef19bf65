use Rattle.fts_sql.proofs.Quotes.{none_quoted, first_quoted}
use Rattle.fts_sql.proofs.copy.split_front.Goals as goal

pub returns-in_default-clause-some : goal.returns-in_default-clause-some
returns-in_default-clause-some c = none_quoted c.args.written.now c.in_default.ensures

pub returns-clause-some : goal.returns-clause-some
returns-clause-some c =
    first_quoted c.in-Some.place c.args.written.now c.split_at.result.0.now c.split_at.result.1.now c.behind_byte.result.now
    c.in-Some.ensures c.split_at.ensures.front c.split_at.ensures.back c.behind_byte.ensures
