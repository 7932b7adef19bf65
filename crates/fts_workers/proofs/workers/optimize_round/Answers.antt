use Rattle.std.proofs.Common.{◌≡◌, ◌∙◌, subst, sym}
use Rattle.fts_steps.specs.FaultCounts.{CountsFaultOf}
use Rattle.fts_workers.specs.declared.health.Health.{Health}
use Rattle.fts_workers.specs.declared.health.Health.TheVariants.{Failed}
use Rattle.fts_workers.proofs.Conversing.{reply_tells}
use Rattle.fts_workers.proofs.Worse.{counted_reply}
use Rattle.fts_workers.proofs.workers.optimize_round.Goals as goal

pub returns : goal.returns
returns g c =
    let sight = g.S.EngineSteps.sight in
    let done = c.optimize_once-reply.ensures in
    record {
      calls = done.calls;
      is = (c.optimize_once-reply.result, done.says);
      made = done.made;
      met_is = c.health_of.ensures ∙ reply_tells (sight.settings c.args.steps.now) done.calls c.optimize_once-reply.result done.says;
      faults = subst (λ (met : Health). CountsFaultOf (met ≡ Failed) (sight.faults c.args.steps.now) (sight.faults c.optimize_once-reply.new.steps)) (sym c.health_of.ensures)
          (counted_reply c.optimize_once-reply.result (sight.faults c.args.steps.now) (sight.faults c.optimize_once-reply.new.steps) done.faults);
    }
