use Rattle.std.proofs.Common.{arith, ◌<◌, ◌+◌, length, sym, ap, subst, ◌∙◌}
use Rattle.std.proofs.lemmas.Bool.{eqb-true, eqb-false}
use Rattle.std.proofs.lemmas.List.{take_rest}
use Rattle.fts_ilist.specs.Spelling.{HasFirstId}
use Rattle.fts_ilist.specs.Queue.{postings_behind}
use Rattle.fts_ilist.specs.Cursor.{postings_until}
use Rattle.fts_ilist.specs.Progress.{EndsBody}
use Rattle.fts_ilist.proofs.Tails.{none_left}
use Rattle.fts_ilist.proofs.Queues.{passes, all_from_first}
use Rattle.fts_ilist.proofs.Until.{none_from_first}
use Rattle.fts_ilist.proofs.Cursors.{tail_number, begins, body_of, first_at, begins_document}
use Rattle.fts_ilist.proofs.queue.next_until.Goals as goal

pub returns-then-is_empty-clause-none : goal.returns-then-is_empty-clause-none
returns-then-is_empty-clause-none c =
    let e = none_left c.args.last c.args.rest.now (eqb-true _ _ (sym c.is_empty.ensures ∙ c.if-is_empty.true)) in
    ap (postings_behind c.args.doc) e ∙ sym e

pub returns-then-is_empty-clause-up_to : goal.returns-then-is_empty-clause-up_to
returns-then-is_empty-clause-up_to c =
    ap (postings_until c.args.doc) (none_left c.args.last c.args.rest.now (eqb-true _ _ (sym c.is_empty.ensures ∙ c.if-is_empty.true)))

pub front_number-increase-requires : goal.front_number-increase-requires
front_number-increase-requires c = tail_number c.args.last c.args.rest.now c.requires (omega (arith, eqb-false _ _ (sym c.is_empty.ensures ∙ c.if-is_empty.false)))

pub overflow_add-id : goal.overflow_add-id
overflow_add-id c =
    let some : 0 < length c.args.rest.now = omega (arith, eqb-false _ _ (sym c.is_empty.ensures ∙ c.if-is_empty.false)) in
    omega (arith, (begins c.args.last c.args.rest.now _ _ c.requires some c.front_number-increase.ensures.found).stands.limit)

pub returns-then-id-doc-clause-none : goal.returns-then-id-doc-clause-none
returns-then-id-doc-clause-none c =
    let some : 0 < length c.args.rest.now = omega (arith, eqb-false _ _ (sym c.is_empty.ensures ∙ c.if-is_empty.false)) in
    let b = begins c.args.last c.args.rest.now _ _ c.requires some c.front_number-increase.ensures.found in
    all_from_first c.args.doc (c.args.last + c.front_number-increase.result.0) c.args.last _ c.requires.after
    (subst (λ ps. HasFirstId ps (c.args.last + c.front_number-increase.result.0)) b.same (first_at _ _ (omega (arith, b.above)) b.stands)) (omega (arith, c.if-id-doc.true))

pub returns-then-id-doc-clause-up_to : goal.returns-then-id-doc-clause-up_to
returns-then-id-doc-clause-up_to c =
    let some : 0 < length c.args.rest.now = omega (arith, eqb-false _ _ (sym c.is_empty.ensures ∙ c.if-is_empty.false)) in
    let b = begins c.args.last c.args.rest.now _ _ c.requires some c.front_number-increase.ensures.found in
    none_from_first c.args.doc (c.args.last + c.front_number-increase.result.0) c.args.last _ c.requires.after
    (subst (λ ps. HasFirstId ps (c.args.last + c.front_number-increase.result.0)) b.same (first_at _ _ (omega (arith, b.above)) b.stands)) (omega (arith, c.if-id-doc.true))

pub body_len-requires : goal.body_len-requires
body_len-requires c =
    let some : 0 < length c.args.rest.now = omega (arith, eqb-false _ _ (sym c.is_empty.ensures ∙ c.if-is_empty.false)) in
    let b = begins c.args.last c.args.rest.now _ _ c.requires some c.front_number-increase.ensures.found in
    rw take_rest (body_of _ _ b.stands)

pub overflow_add-result : goal.overflow_add-result
overflow_add-result c =
    let some : 0 < length c.args.rest.now = omega (arith, eqb-false _ _ (sym c.is_empty.ensures ∙ c.if-is_empty.false)) in
    let ends = subst (λ b. EndsBody b c.body_len.result) (take_rest c.args.rest.now c.front_number-increase.result.1) c.body_len.ensures in
    let d = begins_document c.args.last c.args.rest.now _ _ c.body_len.result c.requires some c.front_number-increase.ensures.found c.front_number-increase.ensures.length ends in
    omega (arith, d.within)

pub returns-clause-some : goal.returns-clause-some
returns-clause-some c =
    let some : 0 < length c.args.rest.now = omega (arith, eqb-false _ _ (sym c.is_empty.ensures ∙ c.if-is_empty.false)) in
    let ends = subst (λ b. EndsBody b c.body_len.result) (take_rest c.args.rest.now c.front_number-increase.result.1) c.body_len.ensures in
    let d = begins_document c.args.last c.args.rest.now _ _ c.body_len.result c.requires some c.front_number-increase.ensures.found c.front_number-increase.ensures.length ends in
    passes c.args.rest.now c.args.last _ _ _ c.args.doc c.requires d c.if-id-doc.false
