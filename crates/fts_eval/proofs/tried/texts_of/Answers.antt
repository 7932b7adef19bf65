use Rattle.std.proofs.Common.{ap, ◌∙◌}
use Rattle.fts_query.specs.declared.view.Candidate.{Candidate as Kept}
use Rattle.fts_eval.proofs.Rows.{texts_absent, first_at}
use Rattle.fts_eval.proofs.tried.texts_of.Goals as goal

pub returns-then-first-id : goal.returns-then-first-id
returns-then-first-id c =
    texts_absent c.args.rows.now c.args.id c.requires.ascend c.requires.first (λ some e. c.if-first-id.true (ap (λ (k : Kept). k.doc) c.first-item.is ∙ first_at c.args.rows.now c.first-item.result some ∙ e))
