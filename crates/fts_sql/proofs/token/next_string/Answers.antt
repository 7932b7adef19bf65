use Rattle.fts_sql.proofs.Strings.{string_here}
use Rattle.fts_sql.proofs.token.next_string.Goals as goal

pub returns : goal.returns
returns c = string_here c.args.inner.now c.split_text.result.0.now c.split_text.result.1.now c.in-Some.after.now c.in-Some.stop.now
    c.split_text.ensures c.in-Some.ensures.cases.0 c.if-stop-ne39.false
