use Rattle.std.proofs.Common.{◌+◌, ◌<◌, ◌++◌, sym, subst, ◌∙◌}
use Rattle.fts_types.specs.Row.{row_of}
use Rattle.fts_commits.specs.Turn.{Turn, rows_but}
use Rattle.fts_rows.specs.Plan.{Fits}
use Rattle.fts_rows.proofs.Keys.{none_with}
use Rattle.fts_rows.proofs.Once.{none_behind}
use Rattle.fts_rows.proofs.Adding.{fits-push}
use Rattle.fts_rows.proofs.rows.Rows.insert.Goals as goal

pub add-requires-clause-key : goal.add-requires-clause-key
add-requires-clause-key c =
    let turn = c.args.draft.now in
    none_behind c.args.key (rows_but turn.deaths c.args.self.now.rows.list) turn.births (sym c.is_taken.ensures ∙ c.if-is_taken.false)

pub returns-clause-fits : goal.returns-clause-fits
returns-clause-fits c = λ count fits.
    let turn = c.args.draft.now in
    let rows = c.args.self.now.rows in
    let row = row_of (record { key = c.args.key; doc = c.in-Ok.doc; texts = c.in_ok-texts.texts }) in
    subst (λ (t : Turn). Fits rows t (count + 1)) (sym c.in_ok-add.ensures)
    (fits-push rows turn row count (none_with c.args.key (rows_but turn.deaths rows.list ++ turn.births) (sym c.is_taken.ensures ∙ c.if-is_taken.false))
    (subst (λ n. n < c.in-Ok.doc) c.largest.ensures c.in-Ok.ensures.above) fits)
