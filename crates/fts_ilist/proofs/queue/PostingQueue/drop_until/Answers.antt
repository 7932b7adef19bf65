use Rattle.std.proofs.Common.{List, arith, sym, ap, ◌∙◌}
use Rattle.fts_ilist.specs.Spelling.{Posting}
use Rattle.fts_ilist.specs.Queue.{Queue, postings_behind}
use Rattle.fts_ilist.proofs.Queues.{all_behind_first, none_behind}
use Rattle.fts_ilist.proofs.queue.PostingQueue.drop_until.Goals as goal

pub returns-then-self-doc : goal.returns-then-self-doc
returns-then-self-doc c =
    let i = c.self.inside in
    let q = c.args.self.now in
    let all = all_behind_first c.args.doc i.before _ c.self.invariant.stands.tail.after (omega (arith, c.if-self-doc.true, c.self.invariant.first_is)) in
    let postings = ap (λ (q : Queue). q.postings) c.self.view_is in
    ap (λ (ps : List Posting). record q { postings = ps }) (sym postings ∙ sym all ∙ ap (postings_behind c.args.doc) postings)

pub returns-then-self-doc-2 : goal.returns-then-self-doc-2
returns-then-self-doc-2 c =
    let i = c.self.inside in
    let none = none_behind c.args.doc i.before _ c.self.invariant.stands.tail.after (omega (arith, c.if-self-doc-2.true, c.self.invariant.last_is)) in
    let postings = ap (λ (q : Queue). q.postings) c.self.view_is in
    c.clear.ensures
    ∙ ap (λ (ps : List Posting). record c.args.self.now { postings = ps }) (sym none ∙ ap (postings_behind c.args.doc) postings)
