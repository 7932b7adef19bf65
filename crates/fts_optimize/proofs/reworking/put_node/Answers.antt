use Rattle.fts_optimize.proofs.Keeping.{goes_on}
use Rattle.fts_optimize.proofs.reworking.put_node.Goals as goal

pub loop-document-preserved : goal.loop-document-preserved
loop-document-preserved c = record {
  can_next = tt;
  is_finite = tt;
  keeping = goes_on c.args.being.now c.loop-document.taken c.put_kept.new.taken c.args.packing.now c.args.documents c.loop-document.packing c.loop-document.document-iterator c.in-Some.document
      c.next.new.self c.put_kept.new.packing c.loop-document.invariant.keeping c.in-Some.ensures.steps c.in_ok-put_kept.ensures.kept c.in_ok-put_kept.ensures.walk;
}
