use Rattle.std.proofs.Common.{arith}
use Rattle.fts_rows.proofs.Deaths.{sorted_ascend}
use Rattle.fts_rows.proofs.draft.ids_of.Goals as goal

pub returns-clause-ascend : goal.returns-clause-ascend
returns-clause-ascend c = sorted_ascend 0 c.args.ids.now.keys c.iter.ensures.ordered (λ k d lt. omega arith)
