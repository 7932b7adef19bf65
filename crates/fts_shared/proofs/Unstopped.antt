-- Where nobody met a fault, none stopped the engine.
use Rattle.std.proofs.Common.{◌≡◌, ℕ, List, [], ◌∷◌, ◌++◌, length, ap, sym, ◌∙◌, subst, refl, arith, None, ⊎_elim}
use Rattle.std.proofs.lemmas.List.{append_assoc}
use Rattle.std.specs.List.{AllByRecursion}
use Rattle.fts_disk.specs.declared.disk.Disk.{Ghosts}
use Rattle.fts_io.specs.Text.{Line}
use Rattle.fts_schema.specs.declared.reply.Reply.{Reply}
use Rattle.fts_types.specs.declared.limits.Limits.{Limits}
use Rattle.fts_types.specs.declared.settings.Settings.{Settings}
use Rattle.fts_steps.specs.Running.{Running, Entry, grown}
use Rattle.fts_steps.specs.Step.{Call, changes_of, after_all}
use Rattle.fts_steps.proofs.Making.{made_traced, traced_alone}
use Rattle.fts_engine.specs.declared.engine.Engine.{Engine}
use Rattle.fts_engine.specs.Stands.{Holds, engine_settings, engine_limits}
use Rattle.fts_sessions.specs.Direct.{direct_sight}
use Rattle.fts_sessions.specs.Transaction.{Transaction}
use Rattle.fts_workers.specs.declared.health.Health.{Health}
use Rattle.fts_workers.specs.declared.health.Health.TheVariants.{Sound, Failed}
use Rattle.fts_workers.specs.Health.{health_of_answer, health_of_steps, worse}
use Rattle.fts_workers.proofs.OneRound.{health_both}
use Rattle.fts_workers.proofs.Still.{answer_still, steps_still, said_calm}
use Rattle.fts_workers.proofs.Worse.{failed_before, failed_now, failed_in}
use Rattle.fts_shared.specs.declared.served.Served.{Served}
use Rattle.fts_shared.specs.declared.work.Work.{Work}
use Rattle.fts_shared.specs.Laws.{IsNumber}
use Rattle.fts_shared.specs.Served.{AreCalm, AreSessions, AreServed, TellsAll, by_number, alone, behind_last}
use Rattle.fts_shared.specs.Talk.{Talks}
use Rattle.fts_shared.specs.Work.{work_lines, work_replies, replies_in}
use Rattle.fts_shared.proofs.Finding.{added_by}
use Rattle.fts_shared.proofs.Histories.{grown_more, same_growth}
use Rattle.fts_shared.proofs.Serving.{held_behind}

-- none of these steps met a fault
abbrev MetNone : List Call → Type 0
MetNone calls = health_of_steps calls ≡ Failed → ⊥

-- ---- sessions and workers

-- a session is told as many replies as it has lines
pub talks_long : (settings : Settings) (transaction : Transaction) (lines : List Line) (calls : List Call) (replies : List Reply) (left : Transaction)
    → Talks settings transaction lines calls replies left → length replies ≡ length lines
talks_long settings transaction [] calls replies left talks = ap length talks.1
talks_long settings transaction (line ∷ lines) calls replies left (here, more, reply, rest, middle, says, calls_are, replies_are, later) =
    let count = talks_long settings middle lines more rest left later in let all = ap length replies_are in omega (arith, count, all)

talk_met_none : (settings : Settings) (transaction : Transaction) (lines : List Line) (calls : List Call) (replies : List Reply) (left : Transaction)
    → Talks settings transaction lines calls replies left → AreCalm replies → MetNone calls
talk_met_none settings transaction [] calls replies left talks calm failed = (let no : ◌≡◌ {A = Health} Sound Failed = sym (ap health_of_steps talks.0) ∙ failed in cc)
talk_met_none settings transaction (line ∷ lines) calls replies left (here, more, reply, rest, middle, says, calls_are, replies_are, later) calm failed =
    let both : AreCalm (reply ∷ rest) = subst AreCalm replies_are calm in
    ⊎_elim (λ first. said_calm settings line transaction middle here reply says both.0 first)
    (λ behind. talk_met_none settings middle lines more rest left later both.1 behind)
    (failed_in (health_of_steps here) (health_of_steps more) (sym (health_both here more) ∙ sym (ap health_of_steps calls_are) ∙ failed))

sessions_met_none : (lines : List Line) (settings : Settings) (works works' : List Work) (all : List (List Call)) → AreSessions lines settings works works' all
    → AllByRecursion AreCalm (replies_in works') → AllByRecursion MetNone all
sessions_met_none lines settings [] [] [] are calm = tt
sessions_met_none lines settings [] [] (calls ∷ all) are calm = absurd are
sessions_met_none lines settings [] (work' ∷ works') [] are calm = absurd are
sessions_met_none lines settings [] (work' ∷ works') (calls ∷ all) are calm = absurd are
sessions_met_none lines settings (work ∷ works) [] [] are calm = absurd are
sessions_met_none lines settings (work ∷ works) [] (calls ∷ all) are calm = absurd are
sessions_met_none lines settings (work ∷ works) (work' ∷ works') [] are calm = absurd are
sessions_met_none lines settings (work ∷ works) (work' ∷ works') (calls ∷ all) are calm = (
  talk_met_none settings None (work_lines lines work) calls (work_replies work') are.0.left are.0.talks calm.0,
  sessions_met_none lines settings works works' all are.1 calm.1,
)

two_more : (all : List (List Call)) (sync optimizer : List Call) → AllByRecursion MetNone all → MetNone sync → MetNone optimizer
    → AllByRecursion MetNone (all ++ (sync ∷ optimizer ∷ []))
two_more [] sync optimizer are here there = (here, (there, tt))
two_more (calls ∷ all) sync optimizer are here there = (are.0, two_more all sync optimizer are.1 here there)

-- ---- the history

in_middle : (before : List (List Call)) (calls : List Call) (behind : List (List Call)) → AllByRecursion MetNone (before ++ (calls ∷ behind)) → MetNone calls
in_middle [] calls behind are = are.0
in_middle (first ∷ before) calls behind are = in_middle before calls behind are.1

of_one : (earlier : List Call) (call : Call) (later : List Call) → MetNone (earlier ++ (call ∷ later)) → health_of_answer call.answer ≡ Failed → ⊥
of_one earlier call later none failed =
    none (health_both earlier (call ∷ later)
    ∙ failed_now (health_of_steps earlier) (worse (health_of_answer call.answer) (health_of_steps later)) (failed_before (health_of_answer call.answer) (health_of_steps later) failed))

module _ (limits : Limits) (running : Running) (history : List Entry) (all : List (List Call)) (told : TellsAll limits running history all) (none : AllByRecursion MetNone all) where
  goes_on : (done rest : List Entry) → history ≡ done ++ rest → (grown (grown running done) rest).stopped ≡ (grown running done).stopped
  goes_on done [] is = refl
  goes_on done (entry ∷ rest) is =
      let by = added_by limits running history all told done entry rest is in
      let call = by.call in
      let now = grown running done in
      let at : IsNumber all by.number (by.earlier ++ (call ∷ by.step.later)) = by.step.calls in
      let calm = of_one by.earlier call by.step.later
      (in_middle at.before (by.earlier ++ (call ∷ by.step.later)) at.behind (subst (AllByRecursion MetNone) at.whole none)) in
      let here : (grown now (entry ∷ [])).stopped ≡ now.stopped =
      ap (λ (entries : List Entry). (grown now entries).stopped) (sym by.added)
      ∙ ap (λ (r : Running). r.stopped) (same_growth now by.number 0 (changes_of call.ask call.answer))
      ∙ answer_still now call.ask call.answer calm in
      let later = goes_on (done ++ entry ∷ []) rest (is ∙ sym (append_assoc done (entry ∷ []) rest)) in
      subst (λ (r : Running). (grown r rest).stopped ≡ r.stopped) (grown_more running done (entry ∷ [])) later ∙ here

  pub still_going : (grown running history).stopped ≡ running.stopped
  still_going = goes_on [] history refl

-- ---- a script

module _ {D E : Type 0} {rows : Ghosts D} {index : Ghosts E} (lines : List Line) (first : Engine D E rows index) (works : List Work) (served : Served D E rows index)
    (are : AreServed lines first works served) (running : Running) (holds : Holds running first) (going : running.stopped ≡ None)
    (calm : AllByRecursion AreCalm (replies_in served.works.items)) (unmet : served.met ≡ Failed → ⊥) where
  workers : worse are.synced are.optimized ≡ Failed → ⊥
  workers failed = unmet (are.met_is ∙ failed_before (worse are.synced are.optimized) are.last failed)

  last : are.last ≡ Failed → ⊥
  last failed = unmet (are.met_is ∙ failed_now (worse are.synced are.optimized) are.last failed)

  none : AllByRecursion MetNone (by_number are.calls)
  none = two_more are.calls.sessions are.calls.sync are.calls.optimizer
      (sessions_met_none lines (engine_settings first) works served.works.items are.calls.sessions are.sessions calm)
      (λ failed. workers (failed_before are.synced are.optimized (are.syncs.met_is ∙ failed)))
      (λ failed. workers (failed_now are.synced are.optimized (are.optimizes.met_is ∙ failed)))

  abbrev closed : Running
  closed = grown running are.history

  before_last : closed.stopped ≡ None
  before_last = still_going (engine_limits first) running are.history (by_number are.calls) (are.told running holds) none ∙ going

  pub nothing_stops : (behind_last closed are.ends).stopped ≡ None
  nothing_stops =
      let ends = are.ends in
      let held = are.stands running holds in
      let behind = after_all closed ends.syncs.calls in
      let single = traced_alone direct_sight refl closed ends.syncs.calls (alone are.closed) (alone ends.middle)
      (made_traced direct_sight ends.syncs.calls closed (alone are.closed) (alone ends.middle) held ends.syncs.made) in
      let later = held_behind ends.syncs.calls (alone are.closed) (alone ends.middle) closed held ends.syncs.made in
      let single' = traced_alone direct_sight refl behind ends.optimizes.calls (alone ends.middle) (alone served.engine)
      (made_traced direct_sight ends.optimizes.calls behind (alone ends.middle) (alone served.engine) later ends.optimizes.made) in
      steps_still behind ends.optimizes.calls single' (λ failed. last (ends.met_is ∙ failed_now ends.synced ends.optimized (ends.optimizes.met_is ∙ failed)))
      ∙ steps_still closed ends.syncs.calls single (λ failed. last (ends.met_is ∙ failed_before ends.synced ends.optimized (ends.syncs.met_is ∙ failed)))
      ∙ before_last
