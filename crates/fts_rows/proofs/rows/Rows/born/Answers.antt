use Rattle.std.proofs.Common.{ap, sym, subst, ◌∙◌}
use Rattle.fts_types.specs.Row.{row_of}
use Rattle.fts_commits.specs.Turn.{Turn, rows_by}
use Rattle.fts_rows.specs.Plan.{Fits, IsTurnOf}
use Rattle.fts_rows.proofs.Born.{born_is, one_leads, one_fits, one_turned}
use Rattle.fts_rows.proofs.rows.Rows.born.Goals as goal

pub returns-clause-leads : goal.returns-clause-leads
returns-clause-leads c =
    let rows = c.args.self.now.rows in
    ap (rows_by rows) (born_is c.args.row c.in_ok-births.births.items c.new.result.items c.new-2.result c.new-2.ensures c.in_ok-births.ensures.items c.new.ensures.items)
    ∙ one_leads rows (row_of c.args.row)

pub returns-clause-fits : goal.returns-clause-fits
returns-clause-fits c =
    let rows = c.args.self.now.rows in
    subst (λ (t : Turn). Fits rows t 1) (sym (born_is c.args.row c.in_ok-births.births.items c.new.result.items c.new-2.result c.new-2.ensures c.in_ok-births.ensures.items c.new.ensures.items))
    (one_fits rows (row_of c.args.row) c.requires.new c.requires.above c.requires.keys)

pub returns-clause-turn : goal.returns-clause-turn
returns-clause-turn c =
    let rows = c.args.self.now.rows in
    subst (λ (t : Turn). IsTurnOf rows t) (sym (born_is c.args.row c.in_ok-births.births.items c.new.result.items c.new-2.result c.new-2.ensures c.in_ok-births.ensures.items c.new.ensures.items))
    (one_turned rows (row_of c.args.row) c.requires.new c.requires.above c.requires.keys c.requires.ascend)
