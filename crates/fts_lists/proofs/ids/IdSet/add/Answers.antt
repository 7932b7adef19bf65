use Rattle.std.proofs.Common.{◌-◌, ap, ◌∙◌}
use Rattle.fts_lists.specs.Ids.{with_id}
use Rattle.fts_lists.proofs.Ascending.{added, held_is}
use Rattle.fts_lists.proofs.ids.IdSet.add.Goals as goal

pub returns : goal.returns
returns c =
    held_is _ (with_id c.args.self.now.ids c.args.id) (c.args.self.now.room - 1)
    (added c.self.inside.ids.keys c.insert.new.self.keys c.args.id c.in-Ok.ensures.updates.0 ∙ ap (λ h. with_id h.ids c.args.id) c.self.view_is)
    (ap (λ h. h.room - 1) c.self.view_is)
