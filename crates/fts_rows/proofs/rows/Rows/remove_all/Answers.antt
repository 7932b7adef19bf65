use Rattle.std.proofs.Common.{◌+◌, ℕ, List, drop, get_or, sym, ap, arith, ◌∙◌}
use Rattle.std.proofs.lemmas.List.{drop_more, drop_all}
use Rattle.fts_types.specs.Row.{Row}
use Rattle.fts_commits.specs.Commit.{Rows}
use Rattle.fts_commits.specs.Turn.{rows_but}
use Rattle.fts_rows.proofs.Deaths.{but_more, but_none}
use Rattle.fts_rows.proofs.rows.Rows.remove_all.Goals as goal

pub loop-doc-preserved : goal.loop-doc-preserved
loop-doc-preserved c =
    let docs = c.args.docs.now in
    let place = c.loop-doc.doc-index in
    let doc = get_or docs place 0 in
    let rows = c.loop-doc.self.rows.list in
    record {
      list = ap (λ (r : Rows). rows_but (drop (place + 1) docs) r.list) c.remove_id.ensures.rows
          ∙ but_more doc (drop (place + 1) docs) rows
          ∙ ap (λ (l : List ℕ). rows_but l rows) (sym (drop_more docs place 0 c.loop-doc-test.true))
          ∙ c.loop-doc.invariant.list;
      largest = ap (λ (r : Rows). r.largest) c.remove_id.ensures.rows ∙ c.loop-doc.invariant.largest;
      limits = c.remove_id.ensures.limits ∙ c.loop-doc.invariant.limits;
      room = omega (arith, c.remove_id.ensures.room, c.loop-doc.invariant.room);
    }

pub returns-clause-rows : goal.returns-clause-rows
returns-clause-rows c =
    let docs = c.args.docs.now in
    let place = c.loop-doc.doc-index in
    let rows = c.loop-doc.self.rows in
    let all = sym (but_none rows.list) ∙ ap (λ (l : List ℕ). rows_but l rows.list) (sym (drop_all place docs c.loop-doc-test.false)) ∙ c.loop-doc.invariant.list in
    ap (λ (l : List Row). let r : Rows = record { list = l; largest = rows.largest } in r) all
    ∙ ap (λ (n : ℕ). let r : Rows = record { list = rows_but docs c.args.self.now.rows.list; largest = n } in r) c.loop-doc.invariant.largest
