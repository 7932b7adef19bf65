use Rattle.std.proofs.Common.{arith, ◌<◌, length, sym, ◌∙◌}
use Rattle.std.proofs.lemmas.Bool.{eqb-true, eqb-false}
use Rattle.std.proofs.lemmas.List.{take_rest}
use Rattle.fts_ilist.proofs.Tails.{none_left}
use Rattle.fts_ilist.proofs.Cursors.{at_end, tail_number, begins, is_cursor}
use Rattle.fts_ilist.proofs.cursor.Cursor.new.Goals as goal

pub returns-then-is_empty : goal.returns-then-is_empty
returns-then-is_empty c = at_end c.args.bytes.now ∙ sym (none_left c.args.last c.args.bytes.now (eqb-true _ _ (sym c.is_empty.ensures ∙ c.if-is_empty.true)))

pub front_number-increase-requires : goal.front_number-increase-requires
front_number-increase-requires c = tail_number c.args.last c.args.bytes.now c.requires (omega (arith, eqb-false _ _ (sym c.is_empty.ensures ∙ c.if-is_empty.false)))

pub overflow_add-result : goal.overflow_add-result
overflow_add-result c =
    let some : 0 < length c.args.bytes.now = omega (arith, eqb-false _ _ (sym c.is_empty.ensures ∙ c.if-is_empty.false)) in
    omega (arith, (begins c.args.last c.args.bytes.now _ _ c.requires some c.front_number-increase.ensures.found).stands.limit)

pub invariant_of-result-2 : goal.invariant_of-result-2
invariant_of-result-2 c =
    let some : 0 < length c.args.bytes.now = omega (arith, eqb-false _ _ (sym c.is_empty.ensures ∙ c.if-is_empty.false)) in
    let b = begins c.args.last c.args.bytes.now _ _ c.requires some c.front_number-increase.ensures.found in
    rw take_rest (is_cursor _ _ (omega (arith, b.above)) b.stands)

pub returns : goal.returns
returns c =
    let some : 0 < length c.args.bytes.now = omega (arith, eqb-false _ _ (sym c.is_empty.ensures ∙ c.if-is_empty.false)) in
    rw take_rest (begins c.args.last c.args.bytes.now _ _ c.requires some c.front_number-increase.ensures.found).same
