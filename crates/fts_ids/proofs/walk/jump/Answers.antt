use Rattle.fts_ids.proofs.Passing.{passes_split}
use Rattle.fts_ids.proofs.walk.jump.Goals as goal

pub returns-then-far-id-clause-passes : goal.returns-then-far-id-clause-passes
returns-then-far-id-clause-passes c =
    passes_split c.args.ids.now c.split_at.result.1.now c.args.place c.args.id c.requires.ascend c.if-place-ids.false c.split_at.ensures.back c.if-far-id.true
