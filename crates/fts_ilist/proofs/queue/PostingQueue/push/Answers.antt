use Rattle.std.proofs.Common.{ℕ, ◌+◌, ◌-◌, ◌≤◌, ◌<◌, ◌^◌, ◌++◌, ◌∷◌, [], length, vec_capacity, arith, sym, ap, subst, ◌∙◌}
use Rattle.fts_ilist.specs.Spelling.{Posting}
use Rattle.fts_ilist.specs.Queue.{IsQueue}
use Rattle.fts_ilist.proofs.Queues.{queue_pushed, few_positions}
use Rattle.fts_ilist.proofs.queue.PostingQueue.push.Goals as goal

pub bytes_for_document-requires : goal.bytes_for_document-requires
bytes_for_document-requires c = omega (arith, few_positions 0 c.args.positions.now (omega arith) c.requires.positions.1)

pub invariant_of-self : goal.invariant_of-self
invariant_of-self c =
    let i = c.self.inside in
    let d : Posting = record { id = c.args.doc; positions = c.args.positions.now } in
    let above : i.last < c.args.doc = omega (arith, c.requires.above, ap (λ q. q.last) c.self.view_is) in
    let limit : c.args.doc < 2 ^ 63 = omega (arith, c.requires.limit) in
    let room = ap (λ q. q.room) c.self.view_is in
    let spare : length c.put_posting.new.out.items + (i.room - c.bytes_for_document.result) ≤ vec_capacity c.put_posting.new.out
    = omega (arith, room, c.put_posting.ensures.len, c.put_posting.ensures.capacity, c.self.invariant.spare, c.bytes_for_document.ensures, c.requires.room) in
    subst (λ (first : ℕ). IsQueue c.put_posting.new.out.items (vec_capacity c.put_posting.new.out) i.start i.before first c.args.doc (i.room - c.bytes_for_document.result)) (sym c.first_with-self-inside.ensures)
    (queue_pushed i.bytes.items _ i.start i.before i.first i.last i.room d c.put_posting.new.out.items _ _ c.self.invariant above limit c.requires.positions c.put_posting.ensures.items spare).is_queue

pub returns-clause-postings : goal.returns-clause-postings
returns-clause-postings c =
    let i = c.self.inside in
    let d : Posting = record { id = c.args.doc; positions = c.args.positions.now } in
    let above : i.last < c.args.doc = omega (arith, c.requires.above, ap (λ q. q.last) c.self.view_is) in
    let limit : c.args.doc < 2 ^ 63 = omega (arith, c.requires.limit) in
    let room = ap (λ q. q.room) c.self.view_is in
    let spare : length c.put_posting.new.out.items + (i.room - c.bytes_for_document.result) ≤ vec_capacity c.put_posting.new.out
    = omega (arith, room, c.put_posting.ensures.len, c.put_posting.ensures.capacity, c.self.invariant.spare, c.bytes_for_document.ensures, c.requires.room) in
    (queue_pushed i.bytes.items _ i.start i.before i.first i.last i.room d c.put_posting.new.out.items _ _ c.self.invariant above limit c.requires.positions c.put_posting.ensures.items spare).view
    ∙ ap (λ q. q.postings ++ d ∷ []) c.self.view_is
