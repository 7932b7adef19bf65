use Rattle.std.proofs.Common.{◌≡◌, ◌+◌, ◌-◌, subst, ◌∙◌, arith}
use Rattle.fts_aux.specs.Table.{AreFilledBut}
use Rattle.fts_aux.proofs.Kept.{all_filled}
use Rattle.fts_aux.proofs.table.drop_empty.Goals as goal

pub loop-number-preserved : goal.loop-number-preserved
loop-number-preserved c =
    let inv = c.loop-number.invariant in
    let more : c.loop-number.number ≡ c.loop-number.number - 1 + 1 = omega (arith, c.loop-number-test.true) in (
      λ w. c.drop_empty_at.ensures.lists w ∙ inv.0 w,
      c.drop_empty_at.ensures.filled c.args.kept (subst (λ n. AreFilledBut c.loop-number.words.entries c.args.kept n) more inv.1),
      c.drop_empty_at.ensures.listed inv.2,
      c.drop_empty_at.ensures.loose ∙ inv.3,
    )

pub returns-clause-filled : goal.returns-clause-filled
returns-clause-filled c =
    all_filled c.loop-number.words.entries c.args.kept c.loop-number.number c.loop-number-test.false c.loop-number.invariant.1
