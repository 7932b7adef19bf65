use Rattle.std.proofs.Common.{sym, subst}
use Rattle.fts_ilist.proofs.Merging.{IsMerging, merge_step}
use Rattle.fts_ilist.proofs.list.merged.Goals as goal

pub loop-document-preserved : goal.loop-document-preserved
loop-document-preserved c =
    subst (λ out. IsMerging c.args.left c.args.right out c.next_of.new.left c.next_of.new.right) (sym c.in_ok-push_document.ensures.ok)
    (merge_step _ _ _ _ _ _ _ c.in-Some.document c.loop-document.invariant c.in-Some.ensures).merging
