use Rattle.std.proofs.Common.{rules, arith, ◌≡◌, [], sym, ◌∙◌}
use Rattle.std.proofs.lemmas.Bool.{eqb-true}
use Rattle.std.proofs.lemmas.List.{take_rest}
use Rattle.fts_ilist.proofs.Postings.{no_positions_at_end}
use Rattle.fts_ilist.proofs.Tails.{no_positions_in, position_step, position_tail, tail_has_position, position_number, position_increase}
use Rattle.fts_ilist.proofs.documents.PositionsIterator.next.Goals as goal

pub returns-then-is_empty-clause-steps : goal.returns-then-is_empty-clause-steps
returns-then-is_empty-clause-steps c =
    let none = eqb-true _ _ (sym c.is_empty.ensures ∙ c.if-is_empty.true) in
    let e : c.args.self.now ≡ [] = sym c.self.view_is ∙ no_positions_in c.self.inside.next c.self.inside.rest.now none in
    (e, e)

pub returns-then-self-eq0-clause-steps : goal.returns-then-self-eq0-clause-steps
returns-then-self-eq0-clause-steps c =
    let e : c.args.self.now ≡ [] = sym c.self.view_is ∙ no_positions_at_end c.self.inside.rest.now c.self.inside.next c.if-self-eq0.true in
    (e, e)

pub front_number-increase-requires : goal.front_number-increase-requires
front_number-increase-requires c = position_number c.self.inside.next c.self.inside.rest.now (tail_has_position c.self.inside.next c.self.inside.rest.now c.self.invariant c.if-self-eq0.false)

pub overflow_cast-self : goal.overflow_cast-self
overflow_cast-self c =
    let h = tail_has_position c.self.inside.next c.self.inside.rest.now c.self.invariant c.if-self-eq0.false in
    omega (arith, (position_increase _ _ _ _ h c.front_number-increase.ensures.found c.front_number-increase.ensures.length).within_limit)

pub overflow_add-self : goal.overflow_add-self
overflow_add-self c =
    let h = tail_has_position c.self.inside.next c.self.inside.rest.now c.self.invariant c.if-self-eq0.false in
    omega (arith, (position_increase _ _ _ _ h c.front_number-increase.ensures.found c.front_number-increase.ensures.length).within_limit)

pub overflow_sub-result : goal.overflow_sub-result
overflow_sub-result c =
    let h = tail_has_position c.self.inside.next c.self.inside.rest.now c.self.invariant c.if-self-eq0.false in
    omega (arith, (position_increase _ _ _ _ h c.front_number-increase.ensures.found c.front_number-increase.ensures.length).above)

pub invariant_of-self : goal.invariant_of-self
invariant_of-self c =
    let h = tail_has_position c.self.inside.next c.self.inside.rest.now c.self.invariant c.if-self-eq0.false in
    rw take_rest (position_tail _ _ _ _ c.self.invariant (position_increase _ _ _ _ h c.front_number-increase.ensures.found c.front_number-increase.ensures.length))

pub returns-clause-steps : goal.returns-clause-steps
returns-clause-steps c =
    let h = tail_has_position c.self.inside.next c.self.inside.rest.now c.self.invariant c.if-self-eq0.false in
    sym c.self.view_is ∙ rw take_rest (position_step _ _ _ _ (position_increase _ _ _ _ h c.front_number-increase.ensures.found c.front_number-increase.ensures.length))

pub returns-clause-goes : goal.returns-clause-goes
returns-clause-goes c =
    let h = tail_has_position c.self.inside.next c.self.inside.rest.now c.self.invariant c.if-self-eq0.false in
    let steps = position_step _ _ _ _ (position_increase _ _ _ _ h c.front_number-increase.ensures.found c.front_number-increase.ensures.length) in
    rw take_rest (search rules)
