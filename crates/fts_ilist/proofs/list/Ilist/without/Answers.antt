use Rattle.std.proofs.Common.{sym, ap, subst, ◌∙◌}
use Rattle.fts_ilist.specs.Changes.{is_among}
use Rattle.fts_ilist.proofs.Merging.{IsLeaving, leaves_kept, leaves_dropped}
use Rattle.fts_ilist.proofs.list.Ilist.without.Goals as goal

pub loop-document-preserved-in-Continue-1 : goal.loop-document-preserved-in-Continue-1
loop-document-preserved-in-Continue-1 c =
    subst (λ left. IsLeaving c.args.ids.now c.args.self.now left c.next.new.self) (sym c.in_ok-push_document.ensures.ok)
    (leaves_kept _ _ _ _ _ c.in-Some.document c.loop-document.invariant c.in-Some.ensures.steps
    (sym (ap (is_among c.args.ids.now) c.id.ensures.value) ∙ sym c.holds.ensures ∙ c.if-not-holds.true))

pub loop-document-preserved : goal.loop-document-preserved
loop-document-preserved c =
    leaves_dropped _ _ _ _ _ c.in-Some.document c.loop-document.invariant c.in-Some.ensures.steps
    (sym (ap (is_among c.args.ids.now) c.id.ensures.value) ∙ sym c.holds.ensures ∙ c.if-not-holds.false)
