use Rattle.std.proofs.Common.{ap, ◌∙◌}
use Rattle.fts_lists.specs.Ids.{without}
use Rattle.fts_lists.proofs.Ascending.{purge_step, purge_end, held_is}
use Rattle.fts_lists.proofs.ids.IdSet.remove_all.Goals as goal

pub loop-id-preserved : goal.loop-id-preserved
loop-id-preserved c =
    (purge_step c.args.ids.now c.loop-id.self.ids c.remove.new.self.ids (without c.args.ids.now c.args.self.now.ids) c.loop-id.id-index c.loop-id-test.true c.loop-id.invariant.0 (ap (λ h. h.ids) c.remove.ensures), ap (λ h. h.room) c.remove.ensures ∙ c.loop-id.invariant.1)

pub returns : goal.returns
returns c =
    held_is c.loop-id.self (without c.args.ids.now c.args.self.now.ids) c.args.self.now.room
    (purge_end c.args.ids.now c.loop-id.self.ids (without c.args.ids.now c.args.self.now.ids) c.loop-id.id-index c.loop-id-test.false c.loop-id.invariant.0)
    c.loop-id.invariant.1
