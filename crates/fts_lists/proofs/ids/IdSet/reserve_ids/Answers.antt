use Rattle.std.proofs.Common.{refl, ap, ◌∙◌}
use Rattle.fts_lists.proofs.Ascending.{kept, held_is}
use Rattle.fts_lists.proofs.ids.IdSet.reserve_ids.Goals as goal

pub returns-clause-ok : goal.returns-clause-ok
returns-clause-ok c =
    held_is _ c.args.self.now.ids c.args.more
    (kept c.self.inside.ids.keys c.reserve.new.self.keys c.reserve.ensures.keys.2 ∙ ap (λ h. h.ids) c.self.view_is)
    refl
