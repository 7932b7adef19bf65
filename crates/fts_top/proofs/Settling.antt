-- What a script that was served to its end leaves.
use Rattle.std.proofs.Common.{◌≡◌, ◌≤◌, ℕ, zero, suc, Bool, true, false, List, [], ◌∷◌, length, ap, refl, sym, subst, ◌∙◌, arith, inl, inr, None, Some, Option}
use Rattle.std.proofs.lemmas.List.{length-map}
use Rattle.std.specs.Prelude.{slice_get}
use Rattle.std.specs.List.{AllByRecursion}
use Rattle.fts_disk.specs.declared.disk.Disk.{Ghosts}
use Rattle.fts_io.specs.Text.{Line}
use Rattle.fts_types.specs.declared.settings.Settings.{Settings}
use Rattle.fts_schema.specs.declared.reply.Reply.{Reply}
use Rattle.fts_script.specs.declared.grouping.Group.{Group}
use Rattle.fts_script.specs.Group.{Share, share_of}
use Rattle.fts_script.specs.Merge.{IsMerged, reply_of}
use Rattle.fts_steps.specs.Running.{Running, grown}
use Rattle.fts_steps.specs.Step.{Call}
use Rattle.fts_engine.specs.declared.engine.Engine.{Engine}
use Rattle.fts_engine.specs.Stands.{Holds, engine_settings, engine_limits}
use Rattle.fts_workers.specs.declared.health.Health.{Health}
use Rattle.fts_workers.specs.declared.health.Health.TheVariants.{Sound, Short, Failed}
use Rattle.fts_workers.specs.Health.{health_of, worse, health_of_all}
use Rattle.fts_workers.proofs.Worse.{sound_before, sound_behind, sound_calm}
use Rattle.fts_shared.specs.declared.work.Work.{Work}
use Rattle.fts_shared.specs.Served.{AreCalm, AreSessions, LeavesNoneDue, behind_last}
use Rattle.fts_shared.specs.Work.{work_share, work_lines, work_replies, shares_in, replies_in}
use Rattle.fts_shared.proofs.Settling.{last_none_due}
use Rattle.fts_shared.proofs.Unstopped.{talks_long, nothing_stops}
use Rattle.fts_top.specs.declared.ends.RunEnd.TheVariants as end
use Rattle.fts_top.specs.Answers.{told}
use Rattle.fts_top.specs.Once.{Outside, SinkSeen}
use Rattle.fts_top.specs.Serve.{WasServed, Answers, end_of, calm_end}

-- what ends as Done met nothing
calm_done : (met : Health) → end.Done ≡ calm_end met → met ≡ Sound
calm_done Sound is = refl
calm_done Short is = absurd cc
calm_done Failed is = absurd cc

done_sound : (has_failed : Bool) (met : Health) → end.Done ≡ end_of has_failed met → met ≡ Sound
done_sound true met is = absurd cc
done_sound false met is = calm_done met is

-- ---- replies that met nothing

told_sound : (all : List (Option Reply)) (place : ℕ) (reply : Reply) → slice_get all place ≡ Some (Some reply) → health_of_all (told all) ≡ Sound → health_of reply ≡ Sound
told_sound [] place reply is sound = absurd cc
told_sound (None ∷ all) zero reply is sound = absurd cc
told_sound (None ∷ all) (suc place) reply is sound = told_sound all place reply is sound
told_sound (Some first ∷ all) zero reply is sound =
    let same : first ≡ reply = cc in
    sym (ap health_of same) ∙ sound_before (health_of first) (health_of_all (told all)) sound
told_sound (Some first ∷ all) (suc place) reply is sound = told_sound all place reply is (sound_behind (health_of first) (health_of_all (told all)) sound)

module _ (all : List (Option Reply)) (sound : health_of_all (told all) ≡ Sound) where
  own_calm : (places : List ℕ) (replies : List Reply) → length replies ≤ length places
      → ((number place : ℕ) → slice_get places number ≡ Some place → slice_get all place ≡ Some (slice_get replies number)) → AreCalm replies
  own_calm places [] few own = tt
  own_calm [] (reply ∷ replies) few own = absurd (omega (arith, few))
  own_calm (place ∷ places) (reply ∷ replies) few own = (
    (sound_calm reply (told_sound all place reply (own 0 place refl) sound)).no_fault,
    own_calm places replies (omega (arith, few)) (λ number. own (suc number)),
  )

  all_calm : (lines : List Line) (settings : Settings) (works works' : List Work) (calls : List (List Call)) → AreSessions lines settings works works' calls
      → ((at number place : ℕ) (one : Share) → slice_get (shares_in works') at ≡ Some one → slice_get one.places number ≡ Some place
      → slice_get all place ≡ Some (reply_of (replies_in works') at number)) → AllByRecursion AreCalm (replies_in works')
  all_calm lines settings [] [] [] are own = tt
  all_calm lines settings [] [] (c ∷ calls) are own = absurd are
  all_calm lines settings [] (work' ∷ works') [] are own = absurd are
  all_calm lines settings [] (work' ∷ works') (c ∷ calls) are own = absurd are
  all_calm lines settings (work ∷ works) [] calls are own = tt
  all_calm lines settings (work ∷ works) (work' ∷ works') [] are own = absurd are
  all_calm lines settings (work ∷ works) (work' ∷ works') (c ∷ calls) are own =
      let session = are.0 in
      let count = talks_long settings None (work_lines lines work) c (work_replies work') session.left session.talks in
      let places : length (work_lines lines work) ≡ length (work_share work).places = length-map (work_share work).places _ in
      let same = ap (λ (group : Group). length (share_of group).places) session.same in (
        own_calm (work_share work').places (work_replies work') (omega (arith, count, places, same)) (λ number place is. own 0 number place (work_share work') refl is),
        all_calm lines settings works works' calls are.1 (λ at. own (suc at)),
      )

-- ---- a script

module _ {D E : Type 0} (rows : Ghosts D) (index : Ghosts E) (first : Engine D E rows index) (before after : Outside D E) (was : WasServed rows index end.Done first before after) where
  met_nothing : Answers end.Done was.lines was.served.works.items was.served.met before.sink after.sink → was.served.met ≡ Sound
  met_nothing (inl (is, unwritten)) = absurd cc
  met_nothing (inr (all, merged, ((has_failed, is), sent))) =
      sound_before was.served.met (health_of_all (told all)) (done_sound has_failed (worse was.served.met (health_of_all (told all))) is)

  calm : Answers end.Done was.lines was.served.works.items was.served.met before.sink after.sink → AllByRecursion AreCalm (replies_in was.served.works.items)
  calm (inl (is, unwritten)) = absurd cc
  calm (inr (all, merged, ((has_failed, is), sent))) =
      all_calm all (sound_behind was.served.met (health_of_all (told all)) (done_sound has_failed (worse was.served.met (health_of_all (told all))) is))
      was.lines (engine_settings first) was.works was.served.works.items was.are.calls.sessions was.are.sessions merged.own

  pub leaves_none_due : (running : Running) → Holds running first → LeavesNoneDue (engine_limits first) (grown running was.are.history) was.are.ends
  leaves_none_due running holds =
      last_none_due was.lines first was.works was.served was.are running holds
      (sound_behind (worse was.are.synced was.are.optimized) was.are.last (sym was.are.met_is ∙ met_nothing was.answers))

  pub stays_going : (running : Running) → Holds running first → running.stopped ≡ None → (behind_last (grown running was.are.history) was.are.ends).stopped ≡ None
  stays_going running holds going =
      nothing_stops was.lines first was.works was.served was.are running holds going (calm was.answers)
      (λ failed. let no : ◌≡◌ {A = Health} Sound Failed = sym (met_nothing was.answers) ∙ failed in cc)
