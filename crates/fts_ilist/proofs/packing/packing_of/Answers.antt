use Rattle.fts_ilist.proofs.Packs.{packs_on}
use Rattle.fts_ilist.proofs.packing.packing_of.Goals as goal

pub loop-document-preserved : goal.loop-document-preserved
loop-document-preserved c =
    let p = packs_on _ _ _ c.in-Some.document _ c.push.new.self c.loop-document.invariant.all c.loop-document.invariant.after c.in-Some.ensures.steps c.in_ok-push.ensures.ok in
    record { all = p.all; after = p.after }
