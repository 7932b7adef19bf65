use Rattle.std.proofs.Common.{ap, sym, subst, ◌∙◌}
use Rattle.fts_ids.specs.Ids.{has}
use Rattle.fts_lists.specs.Ids.{MayBeAmong}
use Rattle.fts_lists.proofs.Ascending.{has-ascending}
use Rattle.fts_lists.proofs.ids.IdSet.contains.Goals as goal

pub returns-then-is_told : goal.returns-then-is_told
returns-then-is_told c =
    let keys = c.self.inside.ids.keys in
    let may = subst (λ marks. MayBeAmong marks keys) (sym c.deref.ensures.value) c.self.invariant.1 in
    sym (c.is_told.ensures c.if-is_told.true keys may) ∙ sym (has-ascending keys c.args.id) ∙ ap (λ h. has h.ids c.args.id) c.self.view_is

pub returns : goal.returns
returns c = c.contains.ensures ∙ sym (has-ascending c.self.inside.ids.keys c.args.id) ∙ ap (λ h. has h.ids c.args.id) c.self.view_is
