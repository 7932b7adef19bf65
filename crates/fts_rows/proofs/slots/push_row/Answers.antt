use Rattle.fts_rows.proofs.Slotted.{pushed_kept, pushed_rows}
use Rattle.fts_rows.proofs.slots.push_row.Goals as goal

pub returns-clause-kept : goal.returns-clause-kept
returns-clause-kept c = λ high are above. pushed_kept high c.args.slots.now.entries _ c.args.row c.in-Ok.ensures.entries are above

pub returns-clause-rows : goal.returns-clause-rows
returns-clause-rows c = λ high are above. pushed_rows high c.args.slots.now.entries _ c.args.row c.in-Ok.ensures.entries are above
