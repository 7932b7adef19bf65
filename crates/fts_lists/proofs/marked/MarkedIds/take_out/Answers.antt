use Rattle.std.proofs.Common.{ap, ◌∙◌, sym}
use Rattle.fts_lists.specs.Ids.{without}
use Rattle.fts_lists.proofs.Marks.{drop_marks}
use Rattle.fts_lists.proofs.marked.MarkedIds.take_out.Goals as goal

pub invariant_of-self : goal.invariant_of-self
invariant_of-self c =
    drop_marks c.self.inside.marks.items c.set_marks.new.marks.items c.self.inside.ids.ids c.as_slice.result.now c.take_out.new.self.ids c.self.invariant
    c.set_marks.ensures.size c.set_marks.ensures.each
    (ap (λ h. h.ids) c.take_out.ensures ∙ ap (λ taken. without taken c.self.inside.ids.ids) (sym c.as_slice.ensures.value))
