-- After the last rounds nothing is due.
use Rattle.std.proofs.Common.{◌≡◌, ℕ, suc, ◌<◌, ◌≤◌, ◌+◌, ◌-◌, ◌^◌, List, length, ap, sym, ◌∙◌, subst, refl, arith}
use Rattle.std.proofs.lemmas.List.{length-map}
use Rattle.fts_disk.specs.declared.disk.Disk.{Ghosts}
use Rattle.fts_io.specs.Text.{Line}
use Rattle.fts_types.specs.declared.limits.Limits.{Limits}
use Rattle.fts_types.specs.declared.settings.Settings.{Settings}
use Rattle.fts_steps.specs.State.{payloads}
use Rattle.fts_steps.specs.Running.{Running, grown}
use Rattle.fts_steps.specs.Step.{Call, after_all}
use Rattle.fts_steps.proofs.Making.{made_keeps, made_traced, traced_follows, traced_alone}
use Rattle.fts_engine.specs.declared.engine.Engine.{Engine}
use Rattle.fts_engine.specs.Stands.{Holds, engine_settings, engine_limits}
use Rattle.fts_engine.specs.Tally.{few_entries_in_both}
use Rattle.fts_sessions.specs.Direct.{direct_sight}
use Rattle.fts_workers.specs.declared.health.Health.{Health}
use Rattle.fts_workers.specs.declared.health.Health.TheVariants.{Sound}
use Rattle.fts_workers.specs.Settled.{EndsWhole}
use Rattle.fts_workers.proofs.Settling.{settles}
use Rattle.fts_workers.proofs.Ending.{ends_whole}
use Rattle.fts_workers.proofs.Worse.{sound_before, sound_behind}
use Rattle.fts_shared.specs.declared.served.Served.{Served}
use Rattle.fts_shared.specs.declared.work.Work.{Work}
use Rattle.fts_shared.specs.Served.{AreServed, EndsAlone, LeavesNoneDue, alone}
use Rattle.fts_shared.proofs.Serving.{held_behind}

-- they are fewer than the batches that a round may make
enough : (commits flushed : ℕ) → commits < 2 ^ 62 → commits ≤ flushed + (2 ^ 64 - 1)
enough commits flushed few = omega (arith, few)

module _ {D E : Type 0} {rows : Ghosts D} {index : Ghosts E} where
  -- an entry takes bytes of its log, so there are few commits
  few_commits : (engine : Engine D E rows index) (running : Running) → Holds running engine → length running.state.commits < 2 ^ 62
  few_commits engine running holds =
      let few = few_entries_in_both engine in
      let count = holds.has.keeps.log.count in
      let long : length (payloads running.state) ≡ suc (length running.state.commits) = ap suc (length-map running.state.commits _) in
      omega (arith, few, count, long)

  none_due : (closed now : Engine D E rows index) (met : Health) (ends : EndsAlone closed now met) (running : Running) → Holds running closed → met ≡ Sound
      → LeavesNoneDue (engine_limits closed) running ends
  none_due closed now met ends running holds sound =
      let both = sym ends.met_is ∙ sound in
      let syncs = ends.syncs in
      let optimizes = ends.optimizes in
      let traced = made_traced direct_sight syncs.calls running (alone closed) (alone ends.middle) holds syncs.made in
      let same : running.state.settings ≡ engine_settings closed = holds.has.keeps.settings in
      let behind = after_all running syncs.calls in
      let held : Holds behind ends.middle = held_behind syncs.calls (alone closed) (alone ends.middle) running holds syncs.made in
      let later = made_traced direct_sight optimizes.calls behind (alone ends.middle) (alone now) held optimizes.made in
      let settings : engine_settings ends.middle ≡ running.state.settings = (made_keeps direct_sight syncs.calls (alone closed) (alone ends.middle) syncs.made).settings ∙ sym same in
      record {
        batch = settles (engine_limits closed) (engine_settings closed).cache_bytes (2 ^ 64 - 1) running syncs.calls (ap (λ (s : Settings). s.cache_bytes) same)
            (enough (length running.state.commits) running.index.flushed (few_commits closed running holds)) syncs.is
            (traced_follows direct_sight running syncs.calls (alone closed) (alone ends.middle) traced)
            (traced_alone direct_sight refl running syncs.calls (alone closed) (alone ends.middle) traced)
            (sym syncs.met_is ∙ sound_before ends.synced ends.optimized both);
        optimize = subst (λ (s : Settings). EndsWhole s.optimize_words (length optimizes.calls) optimizes.is.0) settings
            (ends_whole (engine_settings ends.middle) (engine_limits ends.middle) behind optimizes.calls optimizes.is.0 optimizes.is.1
            (traced_follows direct_sight behind optimizes.calls (alone ends.middle) (alone now) later)
            (sym optimizes.met_is ∙ sound_behind ends.synced ends.optimized both));
      }

  pub last_none_due : (lines : List Line) (first : Engine D E rows index) (works : List Work) (served : Served D E rows index) (are : AreServed lines first works served) (running : Running)
      → Holds running first → are.last ≡ Sound → LeavesNoneDue (engine_limits first) (grown running are.history) are.ends
  last_none_due lines first works served are running holds sound =
      subst (λ (limits : Limits). LeavesNoneDue limits (grown running are.history) are.ends) are.limits
      (none_due are.closed served.engine are.last are.ends (grown running are.history) (are.stands running holds) sound)
