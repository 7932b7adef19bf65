use Rattle.std.proofs.Common.{◌∙◌, arith}
use Rattle.fts_ids.proofs.Passing.{tells}
use Rattle.fts_ids.proofs.walk.find.Goals as goal

pub returns-then-first-id-clause-found : goal.returns-then-first-id-clause-found
returns-then-first-id-clause-found c =
    tells c.args.id c.loop-rest.rest.now c.in-len1-up.len_at_least c.loop-rest.invariant.ascend c.if-first-id.true
    ∙ c.loop-rest.invariant.kept c.args.id (omega arith)
