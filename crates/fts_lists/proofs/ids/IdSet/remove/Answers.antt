use Rattle.std.proofs.Common.{[], ◌∷◌, ap, ◌∙◌}
use Rattle.fts_lists.specs.Ids.{without}
use Rattle.fts_lists.proofs.Ascending.{removed, held_is}
use Rattle.fts_lists.proofs.ids.IdSet.remove.Goals as goal

pub returns : goal.returns
returns c =
    held_is _ (without (c.args.id ∷ []) c.args.self.now.ids) c.args.self.now.room
    (removed c.self.inside.ids.keys c.remove.new.self.keys c.args.id c.remove.ensures.updates.0 ∙ ap (λ h. without (c.args.id ∷ []) h.ids) c.self.view_is)
    (ap (λ h. h.room) c.self.view_is)
