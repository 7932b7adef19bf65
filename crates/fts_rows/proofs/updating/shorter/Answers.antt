use Rattle.std.proofs.Common.{arith}
use Rattle.fts_rows.proofs.Setting.{no_more_news, no_more_texts}
use Rattle.fts_rows.proofs.updating.shorter.Goals as goal

pub returns-then-len-clause-end : goal.returns-then-len-clause-end
returns-then-len-clause-end c = no_more_news c.args.news.now c.args.texts.now c.len-then-len.result (omega (arith, c.len-then-len.ensures))

pub returns-else-len-clause-end : goal.returns-else-len-clause-end
returns-else-len-clause-end c = no_more_texts c.args.news.now c.args.texts.now c.len-else-len.result (omega (arith, c.len-else-len.ensures))
