use Rattle.std.proofs.Common.{◌≡◌, ℕ, ◌∙◌, length, sym, ap, subst}
use Rattle.std.proofs.lemmas.Bool.{false≢true}
use Rattle.fts_types.specs.declared.settings.Settings.{Settings}
use Rattle.fts_commits.specs.Fits.{CanCommit}
use Rattle.fts_engine.specs.Stands.{engine_settings}
use Rattle.fts_core.specs.declared.event.Event.TheVariants as event
use Rattle.fts_core.specs.declared.world.World.{World}
use Rattle.fts_core.specs.Lists.{Allows}
use Rattle.fts_core.proofs.Stepping.{turned_no_engine, turned_no_fit, no_commit}
use Rattle.fts_core.proofs.commit.commit.Goals as goal

pub returns-in-Err : goal.returns-in-Err
returns-in-Err g c told told' core fits can =
    turned_no_engine (event.Commit c.args.changes) tt c.args.world c.in-Err.world c.in-Err.ensures.closed core fits

pub returns-then-not-can_commit : goal.returns-then-not-can_commit
returns-then-not-can_commit g c told told' core fits can =
    let parts = c.in-Ok.parts in
    let columns : c.len.result ≡ length (engine_settings parts.0).columns = c.len.ensures ∙ ap (λ (s : Settings). length s.columns) c.settings.ensures.settings in
    turned_no_fit (event.Commit c.args.changes) core c.args.world _
    (no_commit core c.args.world parts.0 parts.1 parts.2 parts.3 c.in-Ok.ensures.open fits c.args.changes
    (λ able. absurd (false≢true (sym c.if-not-can_commit.true ∙ c.can_commit.ensures.1
    (subst (λ (n : ℕ). CanCommit n c.as_slice.result.now) (sym columns) (subst (CanCommit (length (engine_settings parts.0).columns)) (sym c.as_slice.ensures) able))))))
    (sym c.in-Ok.ensures.open) fits

pub returns : goal.returns
returns g c told told' =
    subst (λ (w : World _ _ g.D.Disk g.E.Disk). Allows w (event.Commit c.args.changes) c.commit_on.result.1 c.commit_on.result.0) (sym c.in-Ok.ensures.open)
    (c.commit_on.ensures told told')
