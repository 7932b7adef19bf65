use Rattle.std.proofs.Common.{List, ap}
use Rattle.fts_ilist.specs.Spelling.{Posting}
use Rattle.fts_ilist.specs.Queue.{Queue}
use Rattle.fts_ilist.proofs.Queues.{no_queue}
use Rattle.fts_ilist.proofs.queue.PostingQueue.new.Goals as goal

pub invariant_of-result : goal.invariant_of-result
invariant_of-result c = (no_queue c.new.result.items _ c.new.ensures.items).is_queue

pub returns : goal.returns
returns c =
    let e = (no_queue c.new.result.items 0 c.new.ensures.items).view in
    ap (λ (w : List Posting). let q : Queue = record { postings = w; last = 0; room = 0 } in q) e
