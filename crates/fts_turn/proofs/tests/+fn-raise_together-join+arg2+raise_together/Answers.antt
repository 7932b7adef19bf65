use Rattle.std.proofs.Common.{◌≡◌, ◌+◌, [], ◌∷◌, ◌++◌, length, rules, sym, subst, arith}
use Rattle.fts_turn.specs.Promises.{IsAtRest, IsSeat, Numbered}
use Rattle.fts_turn.proofs.Seats.{Numbered-at, Numbered-front, Numbered-push, same_place}
use Rattle.fts_turn.proofs.tests.+fn-raise_together-join+arg2+raise_together.Goals as goal

pub join-others-requires-after_bounds : goal.join-others-requires-after_bounds
join-others-requires-after_bounds g t c κs within =
    let turn = c.args.turn.now in
    let whole : Numbered (IsSeat turn) 0 (c.pop.new.self.items ++ c.in-Some.last ∷ []) = subst (Numbered (IsSeat turn) 0) c.in-Some.ensures.items c.requires in
    let front : Numbered (IsSeat turn) 0 c.pop.new.self.items = Numbered-front (IsSeat turn) 0 _ _ whole in
    let rest : IsAtRest turn c.in-Some.last = (Numbered-at (IsSeat turn) 0 _ _ _ whole).rest in
    ((search rules, (search rules, ((search rules, front), search rules))), rest)

pub returns-clause-seats : goal.returns-clause-seats
returns-clause-seats g t c =
    let turn = c.args.turn.now in
    let whole : Numbered (IsSeat turn) 0 (c.pop.new.self.items ++ c.in-Some.last ∷ []) = subst (Numbered (IsSeat turn) 0) c.in-Some.ensures.items c.requires in
    let came = c.join-others.ensures in
    let was : IsSeat turn (length c.join-others.result.0.items) c.in-Some.last = subst (λ n. IsSeat turn n c.in-Some.last) (let e : 0 + length c.pop.new.self.items ≡ length c.join-others.result.0.items = omega (arith, came.first.1) in e) (Numbered-at (IsSeat turn) 0 _ _ _ whole) in
    subst (Numbered (IsSeat turn) 0) (sym c.append.ensures.items) (Numbered-push (IsSeat turn) _ _ came.first.0 (same_place turn _ _ _ was came.second.0 came.second.1))
