use Rattle.std.proofs.Common.{◌≡◌, List, subst, sym, refl}
use Rattle.fts_script.specs.Group.{shares_of, joining}
use Rattle.fts_script.specs.declared.grouping.Group.{Group}
use Rattle.fts_script.proofs.Shares.{joined_last}
use Rattle.fts_script.proofs.grouping.begin_group.Goals as goal

pub returns-clause-joins : goal.returns-clause-joins
returns-clause-joins c =
    subst (λ (groups : List Group). shares_of groups ≡ joining (shares_of c.args.groups.now.items) c.args.number c.args.place) (sym c.in-Ok-push.ensures.items)
    (joined_last c.args.groups.now.items c.args.number c.args.place _ c.requires.unmet refl (let put = c.in-Ok.ensures.items in let none = c.new-places.ensures.items in cc))
