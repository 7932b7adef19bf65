use Rattle.std.proofs.Common.{◌≡◌, ◌++◌, ◌∷◌, [], List, length, length-append, sym, ap, subst, arith}
use Rattle.std.specs.Prelude.{is_ok}
use Rattle.fts_core.specs.declared.event.Event.{Event}
use Rattle.fts_core.specs.declared.event.Outcome.{Outcome}
use Rattle.fts_core.proofs.Running.{LeadsTo, no_rest, pushed, goes_on, ends}
use Rattle.fts_core.proofs.Laws.{always, promises}
use Rattle.fts_core.specs.Headline.{KeepsPromises}
use Rattle.fts_core.proofs.run.steps.Goals as goal

pub loop-event-preserved : goal.loop-event-preserved
loop-event-preserved g c =
    let world = c.loop-event.world in
    let rest = c.next.new.self.rest.items in
    let done = c.loop-event.outcomes.items in
    let items : c.push.new.self.items ≡ done ++ c.step-next.result.1 ∷ [] =
    pushed c.push.new.self.items done c.step-next.result.1 (is_ok c.push.result) c.push.ensures.items (ap is_ok c.unwrap.ensures) in
    record {
      can_next = tt;
      is_finite = tt;
      room = omega (arith, c.loop-event.invariant.room, c.push.ensures.upper_bound, c.push.ensures.capacity, ap length c.in-Some.ensures.steps.0);
      counted = omega (arith, c.loop-event.invariant.counted, ap length items, length-append done (c.step-next.result.1 ∷ []), ap length c.in-Some.ensures.steps.0);
      leads = λ told told'. subst (λ (all : List Outcome). LeadsTo c.args.world c.args.events.items c.step-next.result.0 rest all) (sym items)
          (goes_on c.args.world c.args.events.items world c.step-next.result.0 c.in-Some.event rest c.step-next.result.1 done
          (subst (λ (all : List (Event _ _)). LeadsTo c.args.world c.args.events.items world all done) c.in-Some.ensures.steps.0 (c.loop-event.invariant.leads told told'))
          (c.step-next.ensures told told'));
    }

pub returns-clause-headline : goal.returns-clause-headline
returns-clause-headline g c told told' core fits =
    always KeepsPromises promises core c.args.world c.loop-event.world c.args.events.items c.loop-event.outcomes.items fits
    (ends c.args.world c.args.events.items c.loop-event.world c.loop-event.outcomes.items
    (subst (λ (all : List (Event _ _)). LeadsTo c.args.world c.args.events.items c.loop-event.world all c.loop-event.outcomes.items)
    (no_rest c.loop-event.event-iterator.rest.items (omega (arith, c.in-None.ensures.steps.0, c.loop-event.event-iterator.rest.ok.0))) (c.loop-event.invariant.leads told told')))
