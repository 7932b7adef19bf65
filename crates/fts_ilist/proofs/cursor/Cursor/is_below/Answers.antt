use Rattle.std.proofs.Common.{◌<◌, nat_lt, arith, subst, inl, inr}
use Rattle.std.proofs.lemmas.Bool.{cases_lt, lt-ltb, le-ltb}
use Rattle.fts_ilist.specs.Cursor.{IsBelow}
use Rattle.fts_ilist.proofs.Cursors.{below_at, not_below_at, not_below_end}
use Rattle.fts_ilist.proofs.cursor.Cursor.is_below.Goals as goal

pub returns-then-self-gt0 : goal.returns-then-self-gt0
returns-then-self-gt0 c =
    let at = c.self.inside.id in
    let some : 0 < at = omega (arith, c.if-self-gt0.true) in
    subst (λ ps. IsBelow c.args.id ps (nat_lt at c.args.id)) c.self.view_is (elim (cases_lt at c.args.id) [
      | inl lt ↦ below_at at c.self.inside.rest.now c.args.id _ some (c.self.invariant.within some) lt (lt-ltb at c.args.id lt)
      | inr le ↦ not_below_at at c.self.inside.rest.now c.args.id _ some (c.self.invariant.within some) le (le-ltb at c.args.id le)
    ])

pub returns-else-self-gt0 : goal.returns-else-self-gt0
returns-else-self-gt0 c =
    let at = c.self.inside.id in
    subst (λ ps. IsBelow c.args.id ps (nat_lt 0 at)) c.self.view_is
    (not_below_end at c.self.inside.rest.now c.args.id _ (omega (arith, c.if-self-gt0.false)) (le-ltb 0 at (omega (arith, c.if-self-gt0.false))))
