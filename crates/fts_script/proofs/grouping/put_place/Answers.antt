use Rattle.std.proofs.Common.{List, subst, ap}
use Rattle.fts_script.specs.Group.{IsItsShare}
use Rattle.fts_script.specs.declared.grouping.Group.{Group}
use Rattle.fts_script.proofs.Shares.{joined_at}
use Rattle.fts_script.proofs.grouping.put_place.Goals as goal

pub returns-in-Ok-clause-joins : goal.returns-in-Ok-clause-joins
returns-in-Ok-clause-joins c =
    joined_at c.args.groups.now.items c.args.number c.in-Some.at c.args.place c.index_mut.result.now _
    (subst (λ (groups : List Group). IsItsShare groups c.args.number c.in-Some.at) c.deref.ensures.value c.in-Some.ensures.some)
    (ap (λ (g : Group). g.number) c.index_mut.ensures.value)
    (let put = c.in-Ok.ensures.items in let here = ap (λ (g : Group). g.places.items) c.index_mut.ensures.value in cc)
