use Rattle.std.proofs.Common.{[], ◌∷◌, ◌++◌, Vec, Global, ap, ◌∙◌}
use Rattle.fts_query.specs.declared.query.Term.{Term, Group}
use Rattle.fts_query.specs.View.{terms_view}
use Rattle.fts_query.specs.Built.{written_open}
use Rattle.fts_query.proofs.Building.{closed_more}
use Rattle.fts_meaning.specs.Tree.{closing, written}
use Rattle.fts_query.proofs.build.Builder.close_bracket.Goals as goal

pub returns-in_ok-push-clause-written : goal.returns-in_ok-push-clause-written
returns-in_ok-push-clause-written c =
    let old = c.args.self.now.brackets.items in
    let bracket = c.in-Some.field-0 in
    let group = c.replace-group.result in
    let added = c.in_ok-push.ensures.items ∙ ap (λ (v : Vec Term Global). v.items ++ Group bracket.sign group ∷ []) c.replace-group.ensures.after in
    closed_more old c.pop.new.self.items bracket group c.push.new.self.items c.in-Some.ensures.items added
    ∙ ap (λ (v : Vec Term Global). (written_open old ++ written (terms_view v.items)) ++ closing ∷ []) c.replace-group.ensures.value
