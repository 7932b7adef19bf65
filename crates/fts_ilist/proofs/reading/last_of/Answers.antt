use Rattle.std.proofs.Common.{arith}
use Rattle.std.proofs.lemmas.Result.{err_from_is_err_and}
use Rattle.fts_ilist.proofs.Faults.{stuck_is_fault}
use Rattle.fts_ilist.proofs.Reader.{reads_on, reads_document, stuck_later}
use Rattle.fts_ilist.proofs.Kept.{one_counted, none_counted}
use Rattle.fts_ilist.proofs.reading.last_of.Goals as goal

pub returns-in_err-document-clause-fault : goal.returns-in_err-document-clause-fault
returns-in_err-document-clause-fault c =
    let p = err_from_is_err_and c.from_residual.result c.from_residual.ensures.1 in
    rw (p.1, p.2) (stuck_is_fault _ _ (stuck_later _ _ _ _ _ _ c.loop-at.invariant.reads c.in_err-document.ensures.stuck))

pub loop-at-preserved : goal.loop-at-preserved
loop-at-preserved c = record {
  reads = reads_on _ _ _ _ _ _ _ c.loop-at.invariant.reads (reads_document _ _ _ _ _ _ c.in_ok-document.ensures.found);
  limit = c.in_ok-document.ensures.found.limit;
  counted = omega (arith, c.loop-at.invariant.counted, one_counted _ _ _ _ _ _ c.in_ok-document.ensures.found);
  few = omega (arith, c.loop-at.invariant.few, c.in_ok-document.ensures.found.front_order, c.in_ok-document.ensures.found.order);
}

pub returns-clause-count : goal.returns-clause-count
returns-clause-count c = omega (arith, c.loop-at.invariant.counted, none_counted c.args.bytes.now c.loop-at.at c.loop-at.last c.loop-at-test.false)
