use Rattle.std.proofs.Common.{◌++◌, true, false, sym, ◌∙◌}
use Rattle.fts_types.specs.Row.{row_of}
use Rattle.fts_commits.specs.Commit.{with_key}
use Rattle.fts_commits.specs.Turn.{rows_but}
use Rattle.fts_rows.proofs.Adding.{of_births, of_rows, found_in}
use Rattle.fts_rows.proofs.rows.Rows.current.Goals as goal

pub returns-then-is_gone : goal.returns-then-is_gone
returns-then-is_gone c =
    let key = c.args.key in
    let rows = c.args.self.now.rows.list in
    let turn = c.args.draft.now in
    found_in (with_key key turn.births) (with_key key (rows_but turn.deaths rows ++ turn.births)) c.find-then-is_gone.result
    (of_rows key rows turn (row_of c.in-Some.row.now) true c.in-Some.ensures.row (sym c.is_gone.ensures ∙ c.if-is_gone.true)) c.find-then-is_gone.ensures

pub returns-else-is_gone : goal.returns-else-is_gone
returns-else-is_gone c =
    let key = c.args.key in
    let turn = c.args.draft.now in
    (with_key key turn.births, of_rows key c.args.self.now.rows.list turn (row_of c.in-Some.row.now) false c.in-Some.ensures.row (sym c.is_gone.ensures ∙ c.if-is_gone.false))

pub returns-in-None : goal.returns-in-None
returns-in-None c =
    let key = c.args.key in
    let rows = c.args.self.now.rows.list in
    let turn = c.args.draft.now in
    found_in (with_key key turn.births) (with_key key (rows_but turn.deaths rows ++ turn.births)) c.find-in-None.result (of_births key rows turn c.in-None.ensures.row) c.find-in-None.ensures
