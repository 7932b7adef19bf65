use Rattle.fts_sql.proofs.Strings.{text_more}
use Rattle.fts_sql.proofs.token.split_text.Goals as goal

pub loop-after-preserved : goal.loop-after-preserved
loop-after-preserved c = text_more c.args.inner.now c.loop-after.rest.now c.in-Some.after.now c.loop-after.invariant c.in-Some.ensures
