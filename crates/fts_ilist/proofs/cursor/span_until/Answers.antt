use Rattle.std.proofs.Common.{◌≡◌, [], arith, subst}
use Rattle.std.proofs.lemmas.List.{take_rest}
use Rattle.fts_ilist.specs.Reading.{postings_in}
use Rattle.fts_ilist.specs.Cursor.{postings_until}
use Rattle.fts_ilist.specs.Queue.{Passes}
use Rattle.fts_ilist.proofs.Until.{starts, goes_on, ends, few, some_until, head_until}
use Rattle.fts_ilist.proofs.cursor.span_until.Goals as goal

pub loop-end-init : goal.loop-end-init
loop-end-init c = record {
  so_far = starts c.args.id c.args.bytes.now c.body_len-head.result c.requires.positive c.requires.stands c.body_len-head.ensures;
  low = c.requires.up_to;
}

pub overflow_add-count : goal.overflow_add-count
overflow_add-count c = omega (arith, few _ _ _ _ _ c.requires.stands.limit c.loop-end.invariant.so_far)

pub loop-end-preserved : goal.loop-end-preserved
loop-end-preserved c =
    let p = subst (λ b. Passes b c.loop-end.last c.args.doc c.in-Some.end c.in-Some.next) (take_rest c.args.bytes.now c.loop-end.len) c.in-Some.ensures.some in
    record { so_far = goes_on _ _ _ _ _ c.args.doc _ _ c.requires.positive c.loop-end.invariant.so_far p; low = p.up_to }

pub returns-clause-some : goal.returns-clause-some
returns-clause-some c = some_until c.args.doc c.args.id c.args.bytes.now c.requires.positive c.requires.stands c.requires.up_to

pub returns-clause-head : goal.returns-clause-head
returns-clause-head c = head_until c.args.doc c.args.id c.args.bytes.now _ c.requires.positive c.requires.stands c.requires.up_to c.body_len-head.ensures

pub returns-clause-span : goal.returns-clause-span
returns-clause-span c =
    ends _ _ _ _ _ c.args.doc c.loop-end.invariant.so_far c.loop-end.invariant.low
    (subst (λ b. postings_until c.args.doc (postings_in c.loop-end.last b) ≡ []) (take_rest c.args.bytes.now c.loop-end.len) c.in_default.ensures.up_to)
