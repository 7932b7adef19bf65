use Rattle.std.proofs.Common.{sym, ◌∙◌}
use Rattle.fts_lists.specs.State.{ids_of}
use Rattle.fts_lists.specs.declared.lists.DeleteList.TheVariants.{DeletedCache}
use Rattle.fts_sync.proofs.Until.{found_dead, found_alive}
use Rattle.fts_sync.proofs.sealing.has_dead.Goals as goal

pub returns-then-is_dead : goal.returns-then-is_dead
returns-then-is_dead c =
    let dead = ids_of DeletedCache c.args.lists.now in
    found_dead dead c.args.documents c.loop-document.document-iterator c.in-Some.document c.next.new.self c.loop-document.invariant.same c.in-Some.ensures.steps
    (sym c.is_dead.ensures ∙ c.if-is_dead.true)

pub loop-document-preserved : goal.loop-document-preserved
loop-document-preserved c =
    let dead = ids_of DeletedCache c.args.lists.now in
    record {
      can_next = tt;
      is_finite = tt;
      same = found_alive dead c.args.documents c.loop-document.document-iterator c.in-Some.document c.next.new.self c.loop-document.invariant.same c.in-Some.ensures.steps
          (sym c.is_dead.ensures ∙ c.if-is_dead.false);
    }
