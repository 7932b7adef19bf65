use Rattle.std.proofs.Common.{ap}
use Rattle.fts_lists.proofs.Marks.{drop_marks}
use Rattle.fts_lists.proofs.marked.MarkedIds.purge.Goals as goal

pub invariant_of-self : goal.invariant_of-self
invariant_of-self c =
    drop_marks c.self.inside.marks.items c.set_marks.new.marks.items c.self.inside.ids.ids c.args.ids.now c.purge.new.self.ids c.self.invariant
    c.set_marks.ensures.size c.set_marks.ensures.each (ap (λ h. h.ids) c.purge.ensures)
