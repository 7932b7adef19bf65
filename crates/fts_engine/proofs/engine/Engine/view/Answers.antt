use Rattle.std.proofs.Common.{refl, ◌∙◌}
use Rattle.fts_steps.specs.Step.{to_view, viewed, no_memory}
use Rattle.fts_query.specs.Seen.{leaves_seen, view_seen}
use Rattle.fts_engine.proofs.Committing.{is_viewed, exact_kept}
use Rattle.fts_engine.proofs.Steps.{refuses}
use Rattle.fts_engine.proofs.engine.Engine.view.Goals as goal

pub returns-in-Ok-clause-steps : goal.returns-in-Ok-clause-steps
returns-in-Ok-clause-steps g c =
    let asked = leaves_seen c.args.leaves.items in
    let view = view_seen c.in-Ok.view in
    refuses c.args.self.now c.args.self.now refl refl refl refl refl refl (λ commits s is. is) (to_view asked) (viewed view) refl refl
    (λ running stands.
    let has = stands.has in
    let number = c.commits.ensures running.state has.keeps in (
      c.in-Ok.ensures.numbered ∙ number,
      λ right. is_viewed running c.args.self.now has.keeps asked c.commits.result view number
          (c.in-Ok.ensures.right running.state.commits running.index has.indexed (exact_kept running c.args.self.now stands right)),
    ))

pub returns-in-Err-clause-steps : goal.returns-in-Err-clause-steps
returns-in-Err-clause-steps g c =
    refuses c.args.self.now c.args.self.now refl refl refl refl refl refl (λ commits s is. is) (to_view (leaves_seen c.args.leaves.items)) no_memory refl refl
    (λ running stands. tt)
