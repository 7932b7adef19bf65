use Rattle.std.proofs.Common.{arith}
use Rattle.fts_index.proofs.Gathering.{before_all}
use Rattle.fts_index.proofs.gather.stands_before.Goals as goal

pub returns-in-len1-up : goal.returns-in-len1-up
returns-in-len1-up c = before_all c.args.front.now c.args.rest.now c.requires.front c.requires.rest (let some = c.in-len1-up.len_at_least in omega (arith, some))
