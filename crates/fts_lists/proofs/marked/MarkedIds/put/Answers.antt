use Rattle.std.proofs.Common.{ap}
use Rattle.fts_lists.proofs.Marks.{put_marks}
use Rattle.fts_lists.proofs.marked.MarkedIds.put.Goals as goal

pub invariant_of-self : goal.invariant_of-self
invariant_of-self c =
    put_marks c.self.inside.marks.items c.set_marks.new.marks.items c.self.inside.ids.ids c.args.ids.now c.put.new.self.ids c.self.invariant
    c.set_marks.ensures.size c.set_marks.ensures.each (ap (λ h. h.ids) c.put.ensures)
