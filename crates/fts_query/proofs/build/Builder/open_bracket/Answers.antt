use Rattle.std.proofs.Common.{[], ◌∷◌, ◌++◌, Vec, Global, ap, ◌∙◌}
use Rattle.fts_query.specs.declared.query.Term.{Term}
use Rattle.fts_query.specs.View.{terms_view}
use Rattle.fts_query.specs.Built.{written_open}
use Rattle.fts_query.proofs.Building.{opened_more}
use Rattle.fts_meaning.specs.Tree.{opening, written}
use Rattle.fts_query.proofs.build.Builder.open_bracket.Goals as goal

pub returns-clause-written : goal.returns-clause-written
returns-clause-written c =
    let old = c.args.self.now.brackets.items in
    let none = ap (λ (v : Vec Term Global). v.items) c.replace-before.ensures.after ∙ c.new.ensures.items in
    opened_more old c.push.new.self.items (record { sign = c.args.sign; before = c.replace-before.result }) _ c.in_ok-push.ensures.items none
    ∙ ap (λ (v : Vec Term Global). (written_open old ++ written (terms_view v.items)) ++ opening c.args.sign ∷ []) c.replace-before.ensures.value
