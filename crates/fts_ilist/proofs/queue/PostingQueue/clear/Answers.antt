use Rattle.std.proofs.Common.{◌≡◌, ◌^◌, ◌<◌, [], List, vec_capacity, arith, ap, ◌∙◌}
use Rattle.fts_ilist.specs.Spelling.{Posting}
use Rattle.fts_ilist.specs.Queue.{Queue}
use Rattle.fts_ilist.proofs.Queues.{no_documents, last_fits}
use Rattle.fts_ilist.proofs.queue.PostingQueue.clear.Goals as goal

pub invariant_of-self : goal.invariant_of-self
invariant_of-self c =
    let i = c.self.inside in
    let none : c.give_back.new.bytes.items ≡ [] = c.give_back.ensures.items ∙ c.clear.ensures.items in
    let limit : i.last < 2 ^ 63 = last_fits i.bytes.items _ i.start i.before i.first i.last i.room c.self.invariant in
    (no_documents c.give_back.new.bytes.items (vec_capacity c.give_back.new.bytes) i.last i.room none limit (omega (arith, c.give_back.ensures.capacity))).is_queue

pub returns : goal.returns
returns c =
    let i = c.self.inside in
    let none : c.give_back.new.bytes.items ≡ [] = c.give_back.ensures.items ∙ c.clear.ensures.items in
    let limit : i.last < 2 ^ 63 = last_fits i.bytes.items _ i.start i.before i.first i.last i.room c.self.invariant in
    let q = no_documents c.give_back.new.bytes.items (vec_capacity c.give_back.new.bytes) i.last i.room none limit (omega (arith, c.give_back.ensures.capacity)) in
    ap (λ (ps : List Posting). let q : Queue = record { postings = ps; last = i.last; room = i.room } in q) q.view
    ∙ ap (λ (q : Queue). record q { postings = [] }) c.self.view_is
