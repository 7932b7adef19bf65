use Rattle.std.proofs.Common.{◌≡◌, Bool, List, ap, sym, ◌∙◌, subst}
use Rattle.std.specs.Prelude.{IfOk}
use Rattle.fts_types.specs.Rules.{rules_of}
use Rattle.fts_query.specs.declared.query.Term.{Term}
use Rattle.fts_query.specs.View.{term_view, terms_view}
use Rattle.fts_query.proofs.Views.{term_view-Group}
use Rattle.fts_meaning.specs.Holds.{term_holds, list_holds}
use Rattle.fts_plain.proofs.terms.+holding.Goals as goal

pub term_holds-returns-in-Group : goal.term_holds-returns-in-Group
term_holds-returns-in-Group t c =
    let rules = rules_of c.args.settings.now in
    let columns = c.args.columns.now in
    let P : Bool → Type 0 = λ b. IfOk c.list_holds.result (λ h. h ≡ b) in
    let same = ap (λ (ts : List Term). list_holds rules columns (terms_view ts)) c.as_slice.ensures.value
    ∙ sym (ap (term_holds rules columns) (ap term_view c.in-Group.is ∙ term_view-Group c.in-Group.field-0 c.in-Group.terms)) in
    subst P same c.list_holds.ensures
