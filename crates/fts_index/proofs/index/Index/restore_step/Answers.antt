use Rattle.std.proofs.Common.{sym, subst, ◌∙◌}
use Rattle.std.proofs.lemmas.Bool.{false≢true}
use Rattle.std.specs.Prelude.{Some}
use Rattle.fts_entries.proofs.Stepping.{same_step}
use Rattle.fts_index.specs.Passing.{step_entry, PlansStep}
use Rattle.fts_index.proofs.index.Index.restore_step.Goals as goal

pub returns-then-not-is_same-clause-bad : goal.returns-then-not-is_same-clause-bad
returns-then-not-is_same-clause-bad c e rules turns s stands is =
    let plan = c.in-Some.plan in
    let planned : PlansStep s (Some plan) = subst (PlansStep s) c.in-Some.is (c.in_ok-plan.ensures.planned rules turns s stands) in
    false≢true (sym c.if-not-is_same.true ∙ c.is_same.ensures.1 (same_step s (step_entry plan) (step_entry c.args.step.now) planned is))
