use Rattle.std.proofs.Common.{◌≡◌, refl, inl, inr}
use Rattle.fts_steps.proofs.FaultCounts.{both_same}
use Rattle.fts_top.proofs.serve.have_risen.Goals as goal

pub returns-then-rows-clause-rose : goal.returns-then-rows-clause-rose
returns-then-rows-clause-rose c is = inl (c.has_risen-rows.ensures.rose c.if-rows.true)

pub returns-else-rows-clause-rose : goal.returns-else-rows-clause-rose
returns-else-rows-clause-rose c is = inr (c.has_risen-index.ensures.rose is)

pub returns-then-rows-clause-calm : goal.returns-then-rows-clause-calm
returns-then-rows-clause-calm c fell none = absurd (none c.if-rows.true)

pub returns-else-rows-clause-calm : goal.returns-else-rows-clause-calm
returns-else-rows-clause-calm c fell none =
    both_same c.args.before.rows c.args.after.rows c.args.before.index c.args.after.index
    (c.has_risen-rows.ensures.calm fell.0 (λ is. let not = c.if-rows.false in cc)) (c.has_risen-index.ensures.calm fell.1 none)
