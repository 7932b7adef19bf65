use Rattle.std.proofs.Common.{ap, option_map, ◌∙◌}
use Rattle.fts_types.specs.Row.{Row}
use Rattle.fts_rows.specs.Rows.{Held, texts_with_id}
use Rattle.fts_rows.proofs.rows.Rows.text_of.Goals as goal

pub returns-in-Some : goal.returns-in-Some
returns-in-Some c =
    ap (option_map (λ (row : Row). row.texts)) (c.in-Some.ensures c.self.inside.largest c.self.invariant.places)
    ∙ ap (λ (h : Held). texts_with_id c.args.doc h.rows.list) c.self.view_is

pub returns-in-None : goal.returns-in-None
returns-in-None c =
    ap (option_map (λ (row : Row). row.texts)) (c.in-None.ensures c.self.inside.largest c.self.invariant.places)
    ∙ ap (λ (h : Held). texts_with_id c.args.doc h.rows.list) c.self.view_is
