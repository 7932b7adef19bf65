use Rattle.std.proofs.Common.{◌≡◌, ◌+◌, ◌<◌, [], ap, sym, subst, ◌∙◌}
use Rattle.fts_types.specs.Row.{row_of}
use Rattle.fts_commits.specs.Commit.{Rows, with_key}
use Rattle.fts_commits.specs.Turn.{Turn, rows_but, rows_by}
use Rattle.fts_rows.specs.Plan.{Fits}
use Rattle.fts_rows.proofs.Keys.{own_go}
use Rattle.fts_rows.proofs.Once.{none_behind, none_has}
use Rattle.fts_rows.proofs.Adding.{fits-push}
use Rattle.fts_rows.proofs.rows.Rows.update.Goals as goal

pub add-requires-clause-key : goal.add-requires-clause-key
add-requires-clause-key c =
    let key = c.args.key in
    let rows = c.args.self.now.rows in
    let left = rows_by rows c.args.draft.now in
    let turn = c.take_out.new.draft in
    let none : with_key key (rows_by rows turn).list ≡ [] = ap (λ (r : Rows). with_key key r.list) c.in_default-take_out.ensures.rows ∙ own_go key left.list in
    none_behind key (rows_but turn.deaths rows.list) turn.births (none_has key (rows_by rows turn).list none)

pub returns-clause-fits : goal.returns-clause-fits
returns-clause-fits c = λ count fits.
    let key = c.args.key in
    let rows = c.args.self.now.rows in
    let left = rows_by rows c.args.draft.now in
    let turn = c.take_out.new.draft in
    let row = row_of (record { key = key; doc = c.in-Ok.doc; texts = c.in_ok-texts.texts }) in
    let none : with_key key (rows_by rows turn).list ≡ [] = ap (λ (r : Rows). with_key key r.list) c.in_default-take_out.ensures.rows ∙ own_go key left.list in
    let above : turn.largest < c.in-Ok.doc =
    subst (λ n. n < c.in-Ok.doc) (c.largest.ensures ∙ sym (ap (λ (r : Rows). r.largest) c.in_default-take_out.ensures.rows)) c.in-Ok.ensures.above in
    subst (λ (t : Turn). Fits rows t (count + 1)) (sym c.in_ok-add.ensures) (fits-push rows turn row count none above (c.in_default-take_out.ensures.fits count fits))
