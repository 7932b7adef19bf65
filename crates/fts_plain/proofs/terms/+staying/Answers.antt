use Rattle.std.proofs.Common.{List, ap, sym, ◌∙◌}
use Rattle.fts_types.specs.Rules.{rules_of}
use Rattle.fts_query.specs.declared.query.Term.{Term}
use Rattle.fts_query.specs.View.{term_view, terms_view}
use Rattle.fts_query.proofs.Views.{term_view-Group}
use Rattle.fts_meaning.specs.Holds.{stays, some_stays}
use Rattle.fts_plain.proofs.terms.+staying.Goals as goal

pub stays-returns-in-Group : goal.stays-returns-in-Group
stays-returns-in-Group t c =
    let rules = rules_of c.args.settings.now in
    c.some_stays.ensures
    ∙ ap (λ (ts : List Term). some_stays rules (terms_view ts)) c.as_slice.ensures.value
    ∙ sym (ap (stays rules) (ap term_view c.in-Group.is ∙ term_view-Group c.in-Group.field-0 c.in-Group.terms))
