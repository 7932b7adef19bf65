use Rattle.std.proofs.Common.{ap, sym, subst, ◌∙◌}
use Rattle.fts_types.specs.Row.{row_of}
use Rattle.fts_commits.specs.Turn.{Turn, rows_by}
use Rattle.fts_rows.specs.Plan.{Fits, with_death}
use Rattle.fts_rows.proofs.Adding.{leads-none_taken, leads-one_taken, fits-none_taken, fits-one_taken}
use Rattle.fts_rows.proofs.rows.Rows.take_out.Goals as goal

pub returns-in_ok-bury-in-Some-clause-rows : goal.returns-in_ok-bury-in-Some-clause-rows
returns-in_ok-bury-in-Some-clause-rows c =
    let rows = c.args.self.now.rows in
    let doc = c.in-Some.row.now.doc in
    ap (rows_by rows) (c.in_ok-bury-in-Some.ensures ∙ ap (λ (t : Turn). let n : Turn = record { births = t.births; deaths = with_death doc t.deaths; largest = t.largest } in n) c.forget.ensures)
    ∙ leads-one_taken rows c.args.draft.now c.args.key (row_of c.in-Some.row.now) c.in-Some.ensures.ascend c.in-Some.ensures.row

pub returns-in_ok-bury-in-Some-clause-fits : goal.returns-in_ok-bury-in-Some-clause-fits
returns-in_ok-bury-in-Some-clause-fits c = λ count fits.
    let rows = c.args.self.now.rows in
    let doc = c.in-Some.row.now.doc in
    let is = c.in_ok-bury-in-Some.ensures ∙ ap (λ (t : Turn). let n : Turn = record { births = t.births; deaths = with_death doc t.deaths; largest = t.largest } in n) c.forget.ensures in
    subst (λ (t : Turn). Fits rows t count) (sym is)
    (fits-one_taken rows c.args.draft.now c.args.key count (row_of c.in-Some.row.now) c.in-Some.ensures.ascend c.in-Some.ensures.row fits)

pub returns-in-None-clause-rows : goal.returns-in-None-clause-rows
returns-in-None-clause-rows c =
    let rows = c.args.self.now.rows in
    ap (rows_by rows) c.forget.ensures ∙ leads-none_taken rows c.args.draft.now c.args.key c.in-None.ensures.row

pub returns-in-None-clause-fits : goal.returns-in-None-clause-fits
returns-in-None-clause-fits c = λ count fits.
    let rows = c.args.self.now.rows in
    subst (λ (t : Turn). Fits rows t count) (sym c.forget.ensures) (fits-none_taken rows c.args.draft.now c.args.key count c.in-None.ensures.row fits)
