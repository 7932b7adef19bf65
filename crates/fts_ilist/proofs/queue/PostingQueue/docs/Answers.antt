use Rattle.std.proofs.Common.{arith, drop, sym, ap, subst, ◌∙◌}
use Rattle.std.proofs.lemmas.List.{take_rest}
use Rattle.fts_ilist.specs.Spelling.{ArePostings}
use Rattle.fts_ilist.specs.Reading.{postings_in}
use Rattle.fts_ilist.proofs.Postings.{after_lower}
use Rattle.fts_ilist.proofs.queue.PostingQueue.docs.Goals as goal

pub returns-clause-are : goal.returns-clause-are
returns-clause-are c =
    let i = c.self.inside in
    let e = c.new.ensures ∙ ap (postings_in i.before) (take_rest c.deref.result.now i.start ∙ ap (drop i.start) c.deref.ensures.value) in
    subst ArePostings (sym e) (after_lower 0 i.before _ (omega arith) c.self.invariant.stands.tail.after)

pub returns-clause-documents : goal.returns-clause-documents
returns-clause-documents c =
    let i = c.self.inside in
    c.new.ensures ∙ ap (postings_in i.before) (take_rest c.deref.result.now i.start ∙ ap (drop i.start) c.deref.ensures.value) ∙ ap (λ q. q.postings) c.self.view_is
