use Rattle.std.proofs.Common.{◌≡◌, ℕ, ◌<◌, List, [], ◌∷◌, ◌++◌, refl, sym, ap, subst, ◌∙◌, arith}
use Rattle.std.specs.Prelude.{Err, fold, IsTrue, Option, Some}
use Rattle.fts_disk.proofs.Runs.{leaves_weaker}
use Rattle.fts_disk.specs.declared.disk.Disk.{Ghosts}
use Rattle.fts_log.specs.Log as log
use Rattle.fts_log.specs.Log.{device_of}
use Rattle.fts_log.specs.Record.{log_end}
use Rattle.fts_log.specs.Frame.{payload_of}
use Rattle.fts_entries.specs.Entry.{IndexState, after_entry}
use Rattle.fts_index.specs.declared.passing.PassPlan.{PassPlan}
use Rattle.fts_index.specs.declared.passing.PassPlan.TheVariants.{Begin, Word, Finish}
use Rattle.fts_index.specs.Passing.{step_entry, PlansStep, HasPackedNodes, ArePacked}
use Rattle.fts_steps.specs.State.{index_magic, index_payloads, turns_of}
use Rattle.fts_steps.specs.Running.{Running, optimized, optimize_failed, next_optimized}
use Rattle.fts_steps.specs.Crash.{MayHoldIndex}
use Rattle.fts_steps.specs.Step.{Answer, to_optimize, full, passed, step_of, stopped, no_memory, writes, would_write, changes_of}
use Rattle.fts_steps.specs.declared.optimize.OptimizeStep.{OptimizeStep}
use Rattle.fts_steps.specs.declared.optimize.OptimizeStep.TheVariants.{Nothing}
use Rattle.fts_engine.specs.declared.engine.Engine.{Engine}
use Rattle.fts_engine.specs.Kept.{IsIndexed}
use Rattle.fts_engine.specs.Stands.{Holds, engine_limits}
use Rattle.fts_engine.proofs.Committing.{keeps_with, as_before, one_more, same_end, same_behind, not_past}
use Rattle.fts_ixcodec.specs.Payload.{entry_payload}
use Rattle.fts_engine.proofs.Framing.{entry_too_long}
use Rattle.fts_engine.proofs.Steps.{refuses, optimizes, writes_entry, loosens, is_stopped}
use Rattle.fts_engine.proofs.Optimizing.{is_idle, is_full, is_passed, none_next, one_next, payloads_after, leaves_after, indexed_after, entries_after, leaves_either}
use Rattle.fts_engine.proofs.engine.Engine.optimize_step.Goals as goal

pub returns-in-Some-clause-steps : goal.returns-in-Some-clause-steps
returns-in-Some-clause-steps g c =
    refuses c.args.self.now c.args.self.now refl refl refl refl refl refl (λ commits s is. is) to_optimize (stopped c.in-Some.faults) refl refl
    (λ running stands. is_stopped c.args.self.now c.in-Some.faults running stands c.in-Some.is _)

-- what was planned for each engine for which it stood
module _ {D E : Type 0} {disk : Ghosts D} {disk' : Ghosts E} (old : Engine D E disk disk') (found : Option PassPlan)
    (planned : (commits : _) (s : IndexState) → IsIndexed old.kept commits s → PlansStep s found) where
  next_of : (plan : Option PassPlan) → found ≡ plan → (running : Running) → Holds running old → PlansStep running.index plan
  next_of plan is running stands = subst (PlansStep running.index) is (planned running.state.commits running.index stands.has.indexed)

pub returns-in-Ok-None-clause-steps : goal.returns-in-Ok-None-clause-steps
returns-in-Ok-None-clause-steps g c =
    let old = c.args.self.now in
    refuses old _ c.in-Ok-None.ensures.settings c.in-Ok-None.ensures.rows c.in-Ok-None.ensures.limits refl refl refl c.in-Ok-None.ensures.index to_optimize (passed Nothing) refl refl
    (λ running stands.
    let has = stands.has in
    is_idle (engine_limits old) running (sym has.stopped ∙ c.in-None.is)
    (none_next running old has (next_of old _ c.in-Ok-None.ensures.planned _ c.in-Ok-None.field-0-is running stands)))

pub returns-in-Err-clause-steps : goal.returns-in-Err-clause-steps
returns-in-Err-clause-steps g c =
    refuses c.args.self.now _ c.in-Err.ensures.settings c.in-Err.ensures.rows c.in-Err.ensures.limits refl refl refl c.in-Err.ensures.index to_optimize no_memory refl refl (λ running stands. tt)

pub returns-in-Err-NoMemory-clause-steps : goal.returns-in-Err-NoMemory-clause-steps
returns-in-Err-NoMemory-clause-steps g c =
    refuses c.args.self.now _ c.in-Ok-Some.ensures.settings c.in-Ok-Some.ensures.rows c.in-Ok-Some.ensures.limits refl refl refl c.in-Ok-Some.ensures.index to_optimize no_memory refl refl (λ running stands. tt)

pub returns-in-Err-TooLong-clause-steps : goal.returns-in-Err-TooLong-clause-steps
returns-in-Err-TooLong-clause-steps g c =
    let old = c.args.self.now in
    let plan = c.in-Ok-Some.plan in
    let past = entry_too_long old.index (step_entry plan) c.in-Err-TooLong.end _ c.in-Err-TooLong.field-0-is c.in-Err-TooLong.ensures.unframed in
    let next = next_of old _ c.in-Ok-Some.ensures.planned (Some plan) c.in-Ok-Some.field-0-is in
    refuses old _ c.in-Ok-Some.ensures.settings c.in-Ok-Some.ensures.rows c.in-Ok-Some.ensures.limits refl refl refl c.in-Ok-Some.ensures.index to_optimize (full c.in-Err-TooLong.end) refl refl
    (λ running stands.
    let has = stands.has in
    let same = same_behind index_magic (index_payloads running.state) (engine_limits old).log_bytes old.index has.keeps.index (entry_payload (step_entry plan)) in
    let limited = has.keeps.index.limited in
    is_full (engine_limits old) running (sym has.stopped ∙ c.in-None.is) (step_entry plan) (one_next running old has plan (next running stands))
    (omega (arith, past.0, past.1, same, limited))
    ∙ ap (λ (n : ℕ). Some (full n)) (sym same ∙ sym past.0))

-- a planned step writes its entry
step_writes : (plan : PassPlan) (step : OptimizeStep) → step ≡ step_of (step_entry plan) → IsTrue (writes (passed step))
step_writes plan step is = subst (λ (s : OptimizeStep). IsTrue (writes (passed s))) (sym is) (by plan)
  where
    by : (p : PassPlan) → IsTrue (writes (passed (step_of (step_entry p))))
    by Begin = refl
    by (Word word nodes) = refl
    by Finish = refl

step_changes : (plan : PassPlan) (step : OptimizeStep) → step ≡ step_of (step_entry plan) → changes_of to_optimize (passed step) ≡ optimized ∷ []
step_changes plan step is = subst (λ (s : OptimizeStep). changes_of to_optimize (passed s) ≡ optimized ∷ []) (sym is) (by plan)
  where
    by : (p : PassPlan) → changes_of to_optimize (passed (step_of (step_entry p))) ≡ optimized ∷ []
    by Begin = refl
    by (Word word nodes) = refl
    by Finish = refl

abbrev behind : Running → IndexState
behind running = fold (after_entry (turns_of running.state)) running.index (next_optimized running)

pub returns-in-Ok-append-clause-steps : goal.returns-in-Ok-append-clause-steps
returns-in-Ok-append-clause-steps g c =
    let old = c.args.self.now in
    let kept = c.plan_optimize.new.self in
    let plan = c.in-Ok-Some.plan in
    let framed = c.in-Ok.framed in
    let log' = c.append.new.self in
    let ensured = c.in-Ok-append.ensures in
    let numbers = ensured.numbers in
    let settings = c.in-Ok-Some.ensures.settings in
    let rows = c.in-Ok-Some.ensures.rows in
    let limit = (engine_limits old).log_bytes in
    let next = next_of old _ c.in-Ok-Some.ensures.planned (Some plan) c.in-Ok-Some.field-0-is in
    let can = c.in-Ok-Some.ensures.room plan (let is = c.in-Ok-Some.field-0-is in cc) in
    let packed : HasPackedNodes plan = subst ArePacked c.in-Ok-Some.field-0-is c.in-Ok-Some.ensures.packed in
    let grown = λ (running : Running) (stands : Holds running old).
    payloads_after running old stands.has plan (next running stands) ∙ ap (λ (p : List ℕ). index_payloads running.state ++ p ∷ []) (sym c.in-Ok.ensures.framed.same) in
    let entries = λ (running : Running) (stands : Holds running old).
    entries_after running old stands.has plan (next running stands) kept (payload_of framed) c.in-Ok.ensures.framed can.fits packed in
    writes_entry old _ (c.install_optimize.ensures.settings ∙ settings) (c.install_optimize.ensures.limits ∙ c.in-Ok-Some.ensures.limits) refl c.in-None.is
    to_optimize optimized optimize_failed next_optimized behind optimizes (passed c.step_of-step.result) (step_changes plan c.step_of-step.result c.step_of-step.ensures) refl refl
    (ensured.faults.calm (λ is. cc))
    (λ running stands going.
    let has = stands.has in
    is_passed (engine_limits old) running going (step_entry plan) (one_next running old has plan (next running stands))
    (λ past. not_past index_magic (index_payloads running.state) limit old.index has.keeps.index framed (payload_of framed) refl
    (λ over. let no = (ensured.full (log.end_after old.index framed)).1 (over, refl) in cc)
    (subst (λ (n : ℕ). limit < n)
    (ap (λ (p : List ℕ). log_end index_magic (index_payloads running.state ++ p ∷ [])) (sym c.in-Ok.ensures.framed.same)) past))
    ∙ ap (λ (s : OptimizeStep). Some (passed s)) (sym c.step_of-step.ensures))
    (λ running stands.
    let has = stands.has in
    keeps_with running.state old has.keeps _ (c.install_optimize.ensures.settings ∙ settings) (c.install_optimize.ensures.rows ∙ rows) (c.install_optimize.ensures.limits ∙ c.in-Ok-Some.ensures.limits)
    (running.state.entries ++ next_optimized running) (entries running stands) has.keeps.log
    (one_more index_magic (index_payloads running.state) limit old.index has.keeps.index framed (payload_of framed) refl log' _ (grown running stands)
    numbers.making.magic numbers.making.limit numbers.counted numbers.grown))
    (λ running stands told going. subst (λ (all : List (List ℕ)). log.StandsFor all log') (sym (grown running stands))
    (ensured.acknowledged told (index_payloads running.state) (stands.index_logs told going).entries))
    (λ running stands told going. leaves_weaker g.E.Disk (device_of old.index) (device_of log') _ (MayHoldIndex running.state (next_optimized running))
    (leaves_either running old stands.has plan (next running stands) kept (payload_of framed) c.in-Ok.ensures.framed can.fits packed
    (g.E.Disk.images (device_of old.index)) (g.E.Disk.seen (device_of old.index)))
    (ensured.any_moment told (index_payloads running.state) (stands.index_logs told going).entries))
    (λ running stands. indexed_after running old stands.has plan (next running stands) c.install_optimize.new.self
    (c.install_optimize.ensures.index running.state.commits running.index (c.in-Ok-Some.ensures.index running.state.commits running.index stands.has.indexed) (next running stands)))
    (λ running stands. leaves_after running old stands.has plan (next running stands))

pub returns-in-Ok-append-clause-untouched : goal.returns-in-Ok-append-clause-untouched
returns-in-Ok-append-clause-untouched g c none calm =
    absurd (let wrote = step_writes c.in-Ok-Some.plan c.step_of-step.result c.step_of-step.ensures in cc)

pub returns-in-Err-LogFull-clause-steps : goal.returns-in-Err-LogFull-clause-steps
returns-in-Err-LogFull-clause-steps g c =
    let old = c.args.self.now in
    let plan = c.in-Ok-Some.plan in
    let framed = c.in-Ok.framed in
    let settings = c.in-Ok-Some.ensures.settings in
    let rows = c.in-Ok-Some.ensures.rows in
    let limit = (engine_limits old).log_bytes in
    let past = (c.in-Err-LogFull.ensures.full c.in-Err-LogFull.end).0 (ap Err c.in-Err-LogFull.field-0-is) in
    let next = next_of old _ c.in-Ok-Some.ensures.planned (Some plan) c.in-Ok-Some.field-0-is in
    refuses old _ settings rows c.in-Ok-Some.ensures.limits refl (c.in-Err-LogFull.ensures.unchanged past.0) refl c.in-Ok-Some.ensures.index to_optimize (full c.in-Err-LogFull.end) refl refl
    (λ running stands.
    let has = stands.has in
    let same = same_end index_magic (index_payloads running.state) limit old.index has.keeps.index framed (payload_of framed) refl in
    let limited = has.keeps.index.limited in
    let ends = ap (λ (p : List ℕ). log_end index_magic (index_payloads running.state ++ p ∷ [])) (sym c.in-Ok.ensures.framed.same) in
    is_full (engine_limits old) running (sym has.stopped ∙ c.in-None.is) (step_entry plan) (one_next running old has plan (next running stands))
    (omega (arith, past.0, same, limited, ends))
    ∙ ap (λ (n : ℕ). Some (full n)) (ends ∙ sym same ∙ sym past.1 ∙ sym c.in-Err-LogFull.end-is))

pub returns-in-Err-LogFull-clause-untouched : goal.returns-in-Err-LogFull-clause-untouched
returns-in-Err-LogFull-clause-untouched g c none calm =
    c.in-Err-LogFull.ensures.unchanged ((c.in-Err-LogFull.ensures.full c.in-Err-LogFull.end).0 (ap Err c.in-Err-LogFull.field-0-is)).0

pub returns-clause-steps : goal.returns-clause-steps
returns-clause-steps g c =
    let old = c.args.self.now in
    let kept = c.plan_optimize.new.self in
    let plan = c.in-Ok-Some.plan in
    let framed = c.in-Ok.framed in
    let log' = c.append.new.self in
    let ensured = c.in-Err-DiskFault.ensures in
    let numbers = ensured.numbers in
    let counted = ensured.faults in
    let settings = c.in-Ok-Some.ensures.settings in
    let rows = c.in-Ok-Some.ensures.rows in
    let limit = (engine_limits old).log_bytes in
    let next = next_of old _ c.in-Ok-Some.ensures.planned (Some plan) c.in-Ok-Some.field-0-is in
    let can = c.in-Ok-Some.ensures.room plan (let is = c.in-Ok-Some.field-0-is in cc) in
    let packed : HasPackedNodes plan = subst ArePacked c.in-Ok-Some.field-0-is c.in-Ok-Some.ensures.packed in
    loosens old _ settings c.in-Ok-Some.ensures.limits refl c.in-None.is
    to_optimize optimized optimize_failed next_optimized behind optimizes _ refl
    (counted.rose (ap Err c.in-Err-DiskFault.field-0-is)) counted.never_falls (omega (arith, c.faults.ensures, c.faults-in-Err-DiskFault.ensures))
    (λ running stands going.
    let has = stands.has in
    subst (λ (a : Option Answer). IsTrue (would_write a)) (sym
    (is_passed (engine_limits old) running going (step_entry plan) (one_next running old has plan (next running stands))
    (λ past. not_past index_magic (index_payloads running.state) limit old.index has.keeps.index framed (payload_of framed) refl
    (λ over. let no = (ensured.full (log.end_after old.index framed)).1 (over, refl) in cc)
    (subst (λ (n : ℕ). limit < n)
    (ap (λ (p : List ℕ). log_end index_magic (index_payloads running.state ++ p ∷ [])) (sym c.in-Ok.ensures.framed.same)) past))))
    (step_writes plan _ refl))
    (λ running stands.
    let keeps = stands.has.keeps in
    keeps_with running.state old keeps _ settings rows c.in-Ok-Some.ensures.limits running.state.entries keeps.entries keeps.log
    (as_before index_magic (index_payloads running.state) limit old.index keeps.index log' numbers.making.magic numbers.making.limit numbers.uncounted numbers.ungrown))
    (λ t files told le may. g.met.E.Disk.counts_now (device_of log') t files told le may) (λ told. g.met.E.Disk.seen_may_stay (device_of log') told)
    (λ running stands told going. leaves_weaker g.E.Disk (device_of old.index) (device_of log') _ (MayHoldIndex running.state (next_optimized running))
    (leaves_either running old stands.has plan (next running stands) kept (payload_of framed) c.in-Ok.ensures.framed can.fits packed
    (g.E.Disk.images (device_of old.index)) (g.E.Disk.seen (device_of old.index)))
    (ensured.any_moment told (index_payloads running.state) (stands.index_logs told going).entries))
    c.in-Ok-Some.ensures.index
