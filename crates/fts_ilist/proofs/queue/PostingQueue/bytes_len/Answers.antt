use Rattle.std.proofs.Common.{length, sym, subst, ◌∙◌}
use Rattle.fts_ilist.specs.Spelling.{list_bytes}
use Rattle.fts_ilist.specs.Queue.{Queue, HoldsBytes}
use Rattle.fts_ilist.proofs.Queues.{holds_bytes}
use Rattle.fts_ilist.proofs.queue.PostingQueue.bytes_len.Goals as goal

pub returns : goal.returns
returns c =
    let i = c.self.inside in
    subst (λ n. HoldsBytes (length (list_bytes c.args.self.now.postings)) n) (sym (c.len.ensures ∙ i.bytes.ok.0))
    (subst (λ (q : Queue). HoldsBytes (length (list_bytes q.postings)) (length i.bytes.items)) c.self.view_is
    (holds_bytes i.bytes.items _ i.start i.before i.first i.last i.room c.self.invariant))
