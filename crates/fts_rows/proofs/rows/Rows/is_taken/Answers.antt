use Rattle.std.proofs.Common.{◌++◌, ◌∙◌}
use Rattle.fts_commits.specs.Turn.{rows_but}
use Rattle.fts_rows.proofs.Once.{found_has}
use Rattle.fts_rows.proofs.rows.Rows.is_taken.Goals as goal

pub returns : goal.returns
returns c =
    let turn = c.args.draft.now in
    c.is_some.ensures ∙ found_has c.args.key (rows_but turn.deaths c.args.self.now.rows.list ++ turn.births) c.current.result c.current.ensures
