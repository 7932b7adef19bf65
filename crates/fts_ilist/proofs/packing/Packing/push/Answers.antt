use Rattle.std.proofs.Common.{◌<◌, ◌++◌, ◌∷◌, [], ap, sym, subst, ◌∙◌}
use Rattle.fts_ilist.specs.Spelling.{last_id}
use Rattle.fts_ilist.proofs.Packs.{last_joined, put_packs}
use Rattle.fts_ilist.proofs.packing.Packing.push.Goals as goal

pub put-requires : goal.put-requires
put-requires c = last_joined c.self.inside.closed.items c.self.inside.begun _ c.self.invariant (subst (λ ps. last_id ps < c.args.document.now.id) (sym c.self.view_is) c.requires)

pub invariant_of-self-2 : goal.invariant_of-self-2
invariant_of-self-2 c = (put_packs _ _ _ _ _ c.self.invariant c.in_ok-put.ensures.ok).packing

pub returns-clause-ok : goal.returns-clause-ok
returns-clause-ok c = (put_packs _ _ _ _ _ c.self.invariant c.in_ok-put.ensures.ok).view ∙ ap (λ w. w ++ c.args.document.now ∷ []) c.self.view_is
