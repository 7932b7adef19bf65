use Rattle.std.proofs.Common.{◌≡◌, ℕ, ◌<◌, List, [], ◌∷◌, ◌++◌, length, refl, sym, ap, subst, ◌∙◌, arith}
use Rattle.std.specs.Prelude.{Err, Option, Some, IsTrue}
use Rattle.fts_disk.proofs.Runs.{leaves_weaker}
use Rattle.fts_disk.specs.declared.disk.Disk.{Ghosts}
use Rattle.fts_commits.specs.Commit.{Commit}
use Rattle.fts_log.specs.Log as log
use Rattle.fts_log.specs.Log.{device_of}
use Rattle.fts_log.specs.Record.{log_end}
use Rattle.fts_log.specs.Frame.{payload_of}
use Rattle.fts_entries.specs.Entry.{IndexState}
use Rattle.fts_index.specs.declared.sync.SyncPlan.{SyncPlan}
use Rattle.fts_steps.specs.State.{index_magic, index_payloads}
use Rattle.fts_steps.specs.Running.{Running, batched, batch_failed, next_batch, next_index}
use Rattle.fts_steps.specs.Crash.{MayHoldIndex}
use Rattle.fts_steps.specs.Step.{Answer, to_sync, full, flushed, all_flushed, stopped, no_memory, would_write}
use Rattle.fts_engine.specs.declared.engine.Engine.{Engine}
use Rattle.fts_engine.specs.declared.kept.Kept.{Kept}
use Rattle.fts_engine.specs.Kept.{kept_settings, IsIndexed}
use Rattle.fts_engine.specs.Planned.{IsPlanned, IsPlannedOf, IsNextBatch}
use Rattle.fts_engine.specs.Stands.{Holds, engine_limits}
use Rattle.fts_engine.proofs.Committing.{keeps_with, as_before, one_more, same_end, same_behind, not_past}
use Rattle.fts_ixcodec.specs.Payload.{entry_payload}
use Rattle.fts_engine.specs.Batch.{batch_of}
use Rattle.fts_engine.proofs.Framing.{entry_too_long}
use Rattle.fts_engine.proofs.Steps.{refuses, syncs, writes_entry, loosens, is_stopped}
use Rattle.fts_engine.proofs.Syncing.{is_nothing, is_too_long, is_flushed, some_left, through_is, payloads_after, end_is, leaves_after, indexed_after, entries_after, leaves_either}
use Rattle.fts_engine.proofs.engine.Engine.sync_batch.Goals as goal

pub returns-in-Some-clause-steps : goal.returns-in-Some-clause-steps
returns-in-Some-clause-steps g c =
    refuses c.args.self.now c.args.self.now refl refl refl refl refl refl (λ commits s is. is) to_sync (stopped c.in-Some.faults) refl refl
    (λ running stands. is_stopped c.args.self.now c.in-Some.faults running stands c.in-Some.is _)

pub returns-in-Ok-None-clause-steps : goal.returns-in-Ok-None-clause-steps
returns-in-Ok-None-clause-steps g c =
    let old = c.args.self.now in
    let count = c.commits-commits.result in
    refuses old _ c.in-Ok-None.ensures.settings c.in-Ok-None.ensures.rows c.in-Ok-None.ensures.limits refl refl refl c.in-Ok-None.ensures.index to_sync (all_flushed count) refl refl
    (λ running stands.
    let has = stands.has in
    is_nothing (engine_limits old) running (sym has.stopped ∙ c.in-None.is) count (c.commits-commits.ensures running.state has.keeps)
    (subst (IsPlannedOf (kept_settings c.plan_sync.new.self) running.state.commits running.index) c.in-Ok-None.field-0-is (c.in-Ok-None.ensures.planned running.state.commits running.index has.indexed)))

pub returns-in-Err-clause-steps : goal.returns-in-Err-clause-steps
returns-in-Err-clause-steps g c =
    refuses c.args.self.now _ c.in-Err.ensures.settings c.in-Err.ensures.rows c.in-Err.ensures.limits refl refl refl c.in-Err.ensures.index to_sync no_memory refl refl (λ running stands. tt)

pub returns-in-Err-NoMemory-clause-steps : goal.returns-in-Err-NoMemory-clause-steps
returns-in-Err-NoMemory-clause-steps g c =
    refuses c.args.self.now _ c.in-Ok-Some.ensures.settings c.in-Ok-Some.ensures.rows c.in-Ok-Some.ensures.limits refl refl refl c.in-Ok-Some.ensures.index to_sync no_memory refl refl (λ running stands. tt)

-- the batch that was planned is the next one of each engine for which it stood
module _ {D E : Type 0} {disk : Ghosts D} {disk' : Ghosts E} (old : Engine D E disk disk') (kept : Kept) (plan : SyncPlan) (found : Option SyncPlan) (is : found ≡ Some plan)
    (planned : (commits : List Commit) (s : IndexState) → IsIndexed old.kept commits s → IsPlanned kept commits s found) where
  next_of : (running : Running) → Holds running old → IsNextBatch kept plan running.state.commits running.index
  next_of running stands =
      subst (IsPlannedOf (kept_settings kept) running.state.commits running.index) is (planned running.state.commits running.index stands.has.indexed)

pub returns-in-Err-TooLong-clause-steps : goal.returns-in-Err-TooLong-clause-steps
returns-in-Err-TooLong-clause-steps g c =
    let old = c.args.self.now in
    let kept = c.plan_sync.new.self in
    let plan = c.in-Ok-Some.plan in
    let settings = c.in-Ok-Some.ensures.settings in
    let rows = c.in-Ok-Some.ensures.rows in
    let past = entry_too_long old.index (batch_of plan) c.in-Err-TooLong.end _ c.in-Err-TooLong.field-0-is c.in-Err-TooLong.ensures.unframed in
    let next = next_of old kept plan c.in-Ok-Some.field-0 c.in-Ok-Some.field-0-is c.in-Ok-Some.ensures.planned in
    refuses old _ settings rows c.in-Ok-Some.ensures.limits refl refl refl c.in-Ok-Some.ensures.index to_sync (full c.in-Err-TooLong.end) refl refl
    (λ running stands.
    let has = stands.has in
    let same = same_behind index_magic (index_payloads running.state) (engine_limits old).log_bytes old.index has.keeps.index (entry_payload (batch_of plan)) in
    let limited = has.keeps.index.limited in
    let ends = end_is running old has kept settings rows plan (next running stands) in
    is_too_long (engine_limits old) running (sym has.stopped ∙ c.in-None.is) (some_left running old has kept settings rows plan (next running stands))
    (omega (arith, past.0, past.1, same, limited, ends))
    ∙ ap (λ (n : ℕ). Some (full n)) (ends ∙ sym same ∙ sym past.0))

pub returns-in-Ok-append-clause-steps : goal.returns-in-Ok-append-clause-steps
returns-in-Ok-append-clause-steps g c =
    let old = c.args.self.now in
    let kept = c.plan_sync.new.self in
    let plan = c.in-Ok-Some.plan in
    let count = c.commits-commits.result in
    let framed = c.in-Ok.framed in
    let log' = c.append.new.self in
    let ensured = c.in-Ok-append.ensures in
    let numbers = ensured.numbers in
    let settings = c.in-Ok-Some.ensures.settings in
    let rows = c.in-Ok-Some.ensures.rows in
    let limit = (engine_limits old).log_bytes in
    let next = next_of old kept plan c.in-Ok-Some.field-0 c.in-Ok-Some.field-0-is c.in-Ok-Some.ensures.planned in
    let grown = λ (running : Running) (stands : Holds running old).
    payloads_after running old stands.has kept settings rows plan (next running stands)
    ∙ ap (λ (p : List ℕ). index_payloads running.state ++ p ∷ []) (sym c.in-Ok.ensures.framed.same) in
    let entries = λ (running : Running) (stands : Holds running old).
    entries_after running old stands.has kept settings rows plan (next running stands) (payload_of framed) c.in-Ok.ensures.framed kept.right kept.fit in
    writes_entry old _ (c.install_sync.ensures.settings ∙ settings) (c.install_sync.ensures.limits ∙ c.in-Ok-Some.ensures.limits) refl c.in-None.is
    to_sync batched batch_failed (λ running. next_batch running ∷ []) (λ running. next_index running.state running.index) syncs (flushed c.through-through.result count) refl refl refl
    (ensured.faults.calm (λ is. cc))
    (λ running stands going.
    let has = stands.has in
    is_flushed (engine_limits old) running going (some_left running old has kept settings rows plan (next running stands))
    (λ past. not_past index_magic (index_payloads running.state) limit old.index has.keeps.index framed (payload_of framed) refl
    (λ over. let no = (ensured.full (log.end_after old.index framed)).1 (over, refl) in cc)
    (subst (λ (n : ℕ). limit < n) (end_is running old has kept settings rows plan (next running stands)
    ∙ ap (λ (p : List ℕ). log_end index_magic (index_payloads running.state ++ p ∷ [])) (sym c.in-Ok.ensures.framed.same)) past))
    ∙ ap (λ (n : ℕ). Some (flushed n (length running.state.commits))) (sym (c.through-through.ensures ∙ through_is running old has kept settings rows plan (next running stands)))
    ∙ ap (λ (n : ℕ). Some (flushed c.through-through.result n)) (sym (c.commits-commits.ensures running.state has.keeps)))
    (λ running stands.
    let has = stands.has in
    keeps_with running.state old has.keeps _ (c.install_sync.ensures.settings ∙ settings) (c.install_sync.ensures.rows ∙ rows) (c.install_sync.ensures.limits ∙ c.in-Ok-Some.ensures.limits)
    (running.state.entries ++ next_batch running ∷ []) (entries running stands) has.keeps.log
    (one_more index_magic (index_payloads running.state) limit old.index has.keeps.index framed (payload_of framed) refl log' _ (grown running stands)
    numbers.making.magic numbers.making.limit numbers.counted numbers.grown))
    (λ running stands told going. subst (λ (all : List (List ℕ)). log.StandsFor all log') (sym (grown running stands))
    (ensured.acknowledged told (index_payloads running.state) (stands.index_logs told going).entries))
    (λ running stands told going. leaves_weaker g.E.Disk (device_of old.index) (device_of log') _ (MayHoldIndex running.state (next_batch running ∷ []))
    (leaves_either running old stands.has kept settings rows plan (next running stands) (payload_of framed) c.in-Ok.ensures.framed kept.right kept.fit
    (g.E.Disk.images (device_of old.index)) (g.E.Disk.seen (device_of old.index)))
    (ensured.any_moment told (index_payloads running.state) (stands.index_logs told going).entries))
    (λ running stands. indexed_after running old stands.has kept settings rows plan (next running stands) c.install_sync.new.self
    (c.install_sync.ensures.index running.state.commits running.index (c.in-Ok-Some.ensures.index running.state.commits running.index stands.has.indexed) (next running stands)))
    (λ running stands. leaves_after running old stands.has kept settings rows plan (next running stands))

pub returns-in-Ok-append-clause-untouched : goal.returns-in-Ok-append-clause-untouched
returns-in-Ok-append-clause-untouched g c none calm = absurd cc

pub returns-in-Err-LogFull-clause-steps : goal.returns-in-Err-LogFull-clause-steps
returns-in-Err-LogFull-clause-steps g c =
    let old = c.args.self.now in
    let kept = c.plan_sync.new.self in
    let plan = c.in-Ok-Some.plan in
    let framed = c.in-Ok.framed in
    let settings = c.in-Ok-Some.ensures.settings in
    let rows = c.in-Ok-Some.ensures.rows in
    let limit = (engine_limits old).log_bytes in
    let past = (c.in-Err-LogFull.ensures.full c.in-Err-LogFull.end).0 (ap Err c.in-Err-LogFull.field-0-is) in
    let next = next_of old kept plan c.in-Ok-Some.field-0 c.in-Ok-Some.field-0-is c.in-Ok-Some.ensures.planned in
    refuses old _ settings rows c.in-Ok-Some.ensures.limits refl (c.in-Err-LogFull.ensures.unchanged past.0) refl c.in-Ok-Some.ensures.index to_sync (full c.in-Err-LogFull.end) refl refl
    (λ running stands.
    let has = stands.has in
    let same = same_end index_magic (index_payloads running.state) limit old.index has.keeps.index framed (payload_of framed) refl in
    let limited = has.keeps.index.limited in
    let ends = end_is running old has kept settings rows plan (next running stands)
    ∙ ap (λ (p : List ℕ). log_end index_magic (index_payloads running.state ++ p ∷ [])) (sym c.in-Ok.ensures.framed.same) in
    is_too_long (engine_limits old) running (sym has.stopped ∙ c.in-None.is) (some_left running old has kept settings rows plan (next running stands))
    (omega (arith, past.0, same, limited, ends))
    ∙ ap (λ (n : ℕ). Some (full n)) (ends ∙ sym same ∙ sym past.1 ∙ sym c.in-Err-LogFull.end-is))

pub returns-in-Err-LogFull-clause-untouched : goal.returns-in-Err-LogFull-clause-untouched
returns-in-Err-LogFull-clause-untouched g c none calm =
    c.in-Err-LogFull.ensures.unchanged ((c.in-Err-LogFull.ensures.full c.in-Err-LogFull.end).0 (ap Err c.in-Err-LogFull.field-0-is)).0

pub returns-clause-steps : goal.returns-clause-steps
returns-clause-steps g c =
    let old = c.args.self.now in
    let kept = c.plan_sync.new.self in
    let plan = c.in-Ok-Some.plan in
    let framed = c.in-Ok.framed in
    let log' = c.append.new.self in
    let ensured = c.in-Err-DiskFault.ensures in
    let numbers = ensured.numbers in
    let counted = ensured.faults in
    let settings = c.in-Ok-Some.ensures.settings in
    let rows = c.in-Ok-Some.ensures.rows in
    let limit = (engine_limits old).log_bytes in
    let next = next_of old kept plan c.in-Ok-Some.field-0 c.in-Ok-Some.field-0-is c.in-Ok-Some.ensures.planned in
    loosens old _ settings c.in-Ok-Some.ensures.limits refl c.in-None.is
    to_sync batched batch_failed (λ running. next_batch running ∷ []) (λ running. next_index running.state running.index) syncs _ refl
    (counted.rose (ap Err c.in-Err-DiskFault.field-0-is)) counted.never_falls (omega (arith, c.faults.ensures, c.faults-in-Err-DiskFault.ensures))
    (λ running stands going.
    let has = stands.has in
    subst (λ (a : Option Answer). IsTrue (would_write a)) (sym
    (is_flushed (engine_limits old) running going (some_left running old has kept settings rows plan (next running stands))
    (λ past. not_past index_magic (index_payloads running.state) limit old.index has.keeps.index framed (payload_of framed) refl
    (λ over. let no = (ensured.full (log.end_after old.index framed)).1 (over, refl) in cc)
    (subst (λ (n : ℕ). limit < n) (end_is running old has kept settings rows plan (next running stands)
    ∙ ap (λ (p : List ℕ). log_end index_magic (index_payloads running.state ++ p ∷ [])) (sym c.in-Ok.ensures.framed.same)) past)))) refl)
    (λ running stands.
    let keeps = stands.has.keeps in
    keeps_with running.state old keeps _ settings rows c.in-Ok-Some.ensures.limits running.state.entries keeps.entries keeps.log
    (as_before index_magic (index_payloads running.state) limit old.index keeps.index log' numbers.making.magic numbers.making.limit numbers.uncounted numbers.ungrown))
    (λ t files told le may. g.met.E.Disk.counts_now (device_of log') t files told le may) (λ told. g.met.E.Disk.seen_may_stay (device_of log') told)
    (λ running stands told going. leaves_weaker g.E.Disk (device_of old.index) (device_of log') _ (MayHoldIndex running.state (next_batch running ∷ []))
    (leaves_either running old stands.has kept settings rows plan (next running stands) (payload_of framed) c.in-Ok.ensures.framed kept.right kept.fit
    (g.E.Disk.images (device_of old.index)) (g.E.Disk.seen (device_of old.index)))
    (ensured.any_moment told (index_payloads running.state) (stands.index_logs told going).entries))
    c.in-Ok-Some.ensures.index
