use Rattle.std.proofs.Common.{refl, sym, subst}
use Rattle.fts_types.specs.declared.settings.Settings.{Settings}
use Rattle.fts_listing.specs.Listing.{IsListed}
use Rattle.fts_steps.specs.State.{turns_of}
use Rattle.fts_steps.specs.Step.{to_list, listed, no_memory}
use Rattle.fts_engine.proofs.Steps.{refuses}
use Rattle.fts_engine.proofs.engine.Engine.listing.Goals as goal

pub returns-in-Ok-clause-steps : goal.returns-in-Ok-clause-steps
returns-in-Ok-clause-steps g c =
    refuses c.args.self.now c.args.self.now refl refl refl refl refl refl (λ commits s is. is) (to_list c.args.kind) (listed c.commits.result c.in-Ok.listing) refl refl
    (λ running stands. (
      c.commits.ensures running.state stands.has.keeps,
      subst (λ (settings : Settings). IsListed settings (turns_of running.state) running.index c.args.kind c.in-Ok.listing) (sym stands.has.keeps.settings)
          (c.in-Ok.ensures running.state.commits running.index stands.has.indexed),
    ))

pub returns-in-Err-clause-steps : goal.returns-in-Err-clause-steps
returns-in-Err-clause-steps g c =
    refuses c.args.self.now c.args.self.now refl refl refl refl refl refl (λ commits s is. is) (to_list c.args.kind) no_memory refl refl (λ running stands. tt)
