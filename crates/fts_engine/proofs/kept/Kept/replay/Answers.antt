use Rattle.std.proofs.Common.{Ok, ap, sym, ◌∙◌}
use Rattle.fts_engine.proofs.kept.Kept.replay.Goals as goal

pub returns-in-Ok-clause-rows : goal.returns-in-Ok-clause-rows
returns-in-Ok-clause-rows c =
    let planned = c.in-Ok.ensures.planned in
    planned.1 ∙ ap Ok (sym (c.install.ensures.rows c.args.changes.now planned.0 planned.2))

pub returns-in-Ok-clause-index : goal.returns-in-Ok-clause-index
returns-in-Ok-clause-index c commits s is =
    let planned = c.in-Ok.ensures.planned in
    c.install.ensures.index c.args.changes.now planned.0 planned.2 commits s (c.in-Ok.ensures.index commits s is)
