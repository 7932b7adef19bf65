use Rattle.std.proofs.Common.{subst}
use Rattle.fts_ilist.specs.Spelling.{PostingsAfter, last_id}
use Rattle.fts_ilist.proofs.Packs.{packs_on}
use Rattle.fts_index.proofs.listing.list_of.Goals as goal

pub loop-document-preserved : goal.loop-document-preserved
loop-document-preserved c =
    let p = packs_on _ _ _ c.in-Some.document _ c.push_document.new.self c.loop-document.invariant.all c.loop-document.invariant.after c.in-Some.ensures.steps c.in_ok-push_document.ensures.ok in
    record { can_next = tt; is_finite = tt; all = p.all; after = p.after }

pub push_document-requires : goal.push_document-requires
push_document-requires c = (subst (PostingsAfter (last_id c.loop-document.list)) c.in-Some.ensures.steps c.loop-document.invariant.after).0
