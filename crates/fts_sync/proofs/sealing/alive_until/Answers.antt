use Rattle.std.proofs.Common.{◌≡◌, List, IfOk, subst, arith}
use Rattle.fts_ilist.specs.Spelling.{Posting}
use Rattle.fts_ilist.specs.Packing.{packed}
use Rattle.fts_lists.specs.State.{ids_of}
use Rattle.fts_lists.specs.declared.lists.DeleteList.TheVariants.{DeletedCache}
use Rattle.fts_sync.proofs.Until.{goes_on, ends_behind}
use Rattle.fts_sync.proofs.sealing.alive_until.Goals as goal

pub returns-then-id-doc : goal.returns-then-id-doc
returns-then-id-doc c =
    let dead = ids_of DeletedCache c.args.lists.now in
    subst (λ (ps : List Posting). IfOk c.nodes.result (λ nodes. nodes ≡ packed ps))
    (ends_behind c.args.doc dead c.args.documents c.loop-document.packing c.loop-document.document-iterator c.in-Some.document c.next.new.self
    c.loop-document.invariant.until c.in-Some.ensures.steps (let e = c.id.ensures.value in omega (arith, e, c.if-id-doc.true)))
    c.nodes.ensures

pub loop-document-preserved : goal.loop-document-preserved
loop-document-preserved c =
    let dead = ids_of DeletedCache c.args.lists.now in
    record {
      can_next = tt;
      is_finite = tt;
      until = goes_on c.args.doc dead c.args.documents c.loop-document.packing c.loop-document.document-iterator c.in-Some.document c.next.new.self c.put_alive.new.packing
          c.loop-document.invariant.until c.in-Some.ensures.steps (let e = c.id.ensures.value in omega (arith, e, c.if-id-doc.false)) c.in_ok-put_alive.ensures;
    }
