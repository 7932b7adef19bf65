use Rattle.std.proofs.Common.{ap, sym, ◌∙◌}
use Rattle.std.proofs.lemmas.Bool.{eqb-true, eq-eqb}
use Rattle.fts_ilist.proofs.Queues.{empty_queue}
use Rattle.fts_ilist.proofs.queue.PostingQueue.is_empty.Goals as goal

pub returns : goal.returns
returns c =
    let i = c.self.inside in
    let e = empty_queue i.bytes.items _ i.start i.before i.first i.last i.room c.self.invariant in (
      λ t. sym (ap (λ q. q.postings) c.self.view_is) ∙ e.0 (eqb-true _ _ t ∙ c.len.ensures ∙ i.bytes.ok.0),
      λ none. eq-eqb _ _ (e.1 (ap (λ q. q.postings) c.self.view_is ∙ none) ∙ sym i.bytes.ok.0 ∙ sym c.len.ensures),
    )
