use Rattle.std.proofs.Common.{ℕ, length, List, [], ◌∷◌, ◌++◌, sym, ap, subst, ◌∙◌, refl, arith}
use Rattle.std.specs.Prelude.{Err, Ok, Some}
use Rattle.fts_disk.specs.Moments.{LeavesOnly}
use Rattle.fts_disk.proofs.Runs.{leaves_weaker}
use Rattle.fts_commits.specs.Commit.{Rows, after_commit}
use Rattle.fts_rowcodec.specs.Payload.{commit_payload}
use Rattle.fts_steps.specs.State.{payloads, rows_magic}
use Rattle.fts_steps.specs.Step.{committed, full, stopped, no_memory}
use Rattle.fts_steps.specs.Answers.{commit_answer_of}
use Rattle.fts_log.specs.Log as log
use Rattle.fts_log.specs.Log.{device_of}
use Rattle.fts_log.specs.Crash.{IsBeforeOrAfter}
use Rattle.fts_rows.specs.Refusal.{IsNoPlan}
use Rattle.fts_steps.specs.Crash.{MayHold}
use Rattle.fts_engine.specs.Stands.{engine_limits}
use Rattle.fts_engine.specs.Kept.{kept_rows}
use Rattle.fts_engine.proofs.Fitting.{accepted_fits}
use Rattle.fts_engine.proofs.Committing.{is_full, is_committed, numbered, same_end, same_behind, not_past, as_before, same_rows, keeps_after, keeps_with, logged_after, holds_either, refusal_adds, refusal_calm, refusal_answers}
use Rattle.fts_engine.proofs.Framing.{too_long}
use Rattle.fts_engine.proofs.Steps.{refuses, commits, fails, is_stopped, can_still}
use Rattle.fts_engine.proofs.engine.Engine.commit.Goals as goal

pub returns-in-Some-clause-steps : goal.returns-in-Some-clause-steps
returns-in-Some-clause-steps g c =
    refuses c.args.self.now c.args.self.now refl refl refl refl refl refl (λ commits s is. is) _ (stopped c.in-Some.faults) refl refl
    (λ running stands. is_stopped c.args.self.now c.in-Some.faults running stands c.in-Some.is _)

pub returns-in-Err-clause-steps : goal.returns-in-Err-clause-steps
returns-in-Err-clause-steps g c =
    refuses c.args.self.now _ c.in-Err.ensures.settings c.in-Err.ensures.rows c.in-Err.ensures.limits refl refl refl c.in-Err.ensures.index _ (commit_answer_of (Err c.refusal_of.result))
    (refusal_adds c.args.changes.now c.in-Err.error (commit_answer_of (Err c.refusal_of.result)) c.refusal_of.ensures)
    (refusal_calm c.in-Err.error (commit_answer_of (Err c.refusal_of.result)) c.refusal_of.ensures)
    (λ running stands. refusal_answers (engine_limits c.args.self.now) running c.args.changes.now c.in-Err.error (commit_answer_of (Err c.refusal_of.result))
    (sym stands.has.stopped ∙ c.in-None.is) c.refusal_of.ensures
    (subst (λ (rows : Rows). IsNoPlan (after_commit (engine_limits c.args.self.now) c.args.changes.now rows) c.in-Err.error) stands.has.keeps.rows c.in-Err.ensures.refused))

pub framed_commit-requires : goal.framed_commit-requires
framed_commit-requires g c = (
  _,
  c.requires.few,
  accepted_fits _ (engine_limits c.args.self.now) c.args.changes.now (kept_rows c.args.self.now.kept) c.in-Ok.ensures.planned.0 c.args.self.now.kept.within c.args.self.now.kept.fit
      c.requires c.in-Ok.ensures.planned.1,
)

pub returns-in-Err-NoMemory-clause-steps : goal.returns-in-Err-NoMemory-clause-steps
returns-in-Err-NoMemory-clause-steps g c =
    refuses c.args.self.now _ c.in-Ok.ensures.settings c.in-Ok.ensures.rows c.in-Ok.ensures.limits refl refl refl c.in-Ok.ensures.index _ no_memory refl refl (λ running stands. tt)

pub returns-in-Err-TooLong-clause-steps : goal.returns-in-Err-TooLong-clause-steps
returns-in-Err-TooLong-clause-steps g c =
    let old = c.args.self.now in
    let changes = c.args.changes.now in
    let past = too_long old.rows (length (commit_payload changes)) c.in-Err-TooLong.end _ c.in-Err-TooLong.field-0-is c.in-Err-TooLong.ensures.unframed in
    refuses old _ c.in-Ok.ensures.settings c.in-Ok.ensures.rows c.in-Ok.ensures.limits refl refl refl c.in-Ok.ensures.index _ (full c.in-Err-TooLong.end) refl refl
    (λ running stands.
    let same = same_behind rows_magic (payloads running.state) (engine_limits old).log_bytes old.rows stands.has.keeps.log (commit_payload changes) in
    let limit = stands.has.keeps.log.limited in
    is_full running changes (engine_limits old) c.in-Ok.ensures.planned.0 (sym stands.has.stopped ∙ c.in-None.is)
    (same_rows running.state old stands.has.keeps changes (Ok c.in-Ok.ensures.planned.0) c.in-Ok.ensures.planned.1)
    (omega (arith, past.0, past.1, same, limit))
    ∙ ap (λ (n : ℕ). Some (full n)) (sym same ∙ sym past.0))

pub returns-in-Ok-append-clause-steps : goal.returns-in-Ok-append-clause-steps
returns-in-Ok-append-clause-steps g c =
    let old = c.args.self.now in
    let changes = c.args.changes.now in
    let after = c.in-Ok.ensures.planned.0 in
    let ok = c.in-Ok.ensures.planned.1 in
    let numbers = c.in-Ok-append.ensures.numbers in
    let device = device_of old.rows in
    let device' = device_of c.append.new.self in
    let same_settings = c.install.ensures.settings ∙ c.in-Ok.ensures.settings in
    let same_limits = c.install.ensures.limits ∙ c.in-Ok.ensures.limits in
    commits old _ changes same_settings same_limits refl c.in-None.is c.in-Ok-append.number refl (c.in-Ok-append.ensures.faults.calm (λ is. cc))
    (λ running stands going.
    is_committed running changes (engine_limits old) after going (same_rows running.state old stands.has.keeps changes (Ok after) ok)
    (not_past rows_magic (payloads running.state) (engine_limits old).log_bytes old.rows stands.has.keeps.log c.in-Ok-framed_commit.framed (commit_payload changes) c.in-Ok-framed_commit.ensures.framed
    (λ past. let no = (c.in-Ok-append.ensures.full (log.end_after old.rows c.in-Ok-framed_commit.framed)).1 (past, refl) in cc))
    ∙ ap (λ (n : ℕ). Some (committed n)) (sym (numbers.number ∙ numbered running stands.has.keeps.log.count)))
    (λ running stands. keeps_after running.state old stands.has.keeps changes (can_still running old stands changes c.requires) after ok _
    same_settings (c.install.ensures.rows changes after c.in-Ok.ensures.planned.2) same_limits
    numbers.making.magic numbers.making.limit numbers.counted c.in-Ok-framed_commit.framed c.in-Ok-framed_commit.ensures.framed numbers.grown refl)
    (λ running stands told going. logged_after running.state old stands.has.keeps changes (can_still running old stands changes c.requires) after ok c.append.new.self
    (subst (λ (payload : List ℕ). log.StandsFor (payloads running.state ++ payload ∷ []) c.append.new.self) c.in-Ok-framed_commit.ensures.framed
    (c.in-Ok-append.ensures.acknowledged told (payloads running.state) (stands.logs told going).entries)))
    (λ running stands told going. leaves_weaker g.D.Disk device device' _ (MayHold running.state (changes ∷ []))
    (holds_either running.state old stands.has.keeps changes (can_still running old stands changes c.requires) c.in-Ok.ensures.planned.0 c.in-Ok.ensures.planned.1 (g.D.Disk.images device) (g.D.Disk.seen device))
    (subst (λ (payload : List ℕ). LeavesOnly g.D.Disk device device' (IsBeforeOrAfter (log.magic_of old.rows) (payloads running.state) payload (g.D.Disk.images device) (g.D.Disk.seen device)))
    c.in-Ok-framed_commit.ensures.framed (c.in-Ok-append.ensures.any_moment told (payloads running.state) (stands.logs told going).entries)))
    (λ running stands. c.install.ensures.index changes after c.in-Ok.ensures.planned.2 running.state.commits running.index
    (c.in-Ok.ensures.index running.state.commits running.index stands.has.indexed))

pub returns-in-Err-LogFull-clause-steps : goal.returns-in-Err-LogFull-clause-steps
returns-in-Err-LogFull-clause-steps g c =
    let old = c.args.self.now in
    let changes = c.args.changes.now in
    let past = (c.in-Err-LogFull.ensures.full c.in-Err-LogFull.end).0 (ap Err c.in-Err-LogFull.field-0-is) in
    refuses old _ c.in-Ok.ensures.settings c.in-Ok.ensures.rows c.in-Ok.ensures.limits (c.in-Err-LogFull.ensures.unchanged past.0) refl refl c.in-Ok.ensures.index _ (full c.in-Err-LogFull.end) refl refl
    (λ running stands.
    let same = same_end rows_magic (payloads running.state) (engine_limits old).log_bytes old.rows stands.has.keeps.log c.in-Ok-framed_commit.framed (commit_payload changes) c.in-Ok-framed_commit.ensures.framed in
    let limit = stands.has.keeps.log.limited in
    is_full running changes (engine_limits old) c.in-Ok.ensures.planned.0 (sym stands.has.stopped ∙ c.in-None.is)
    (same_rows running.state old stands.has.keeps changes (Ok c.in-Ok.ensures.planned.0) c.in-Ok.ensures.planned.1)
    (omega (arith, past.0, same, limit))
    ∙ ap (λ (n : ℕ). Some (full n)) (sym same ∙ sym past.1 ∙ sym c.in-Err-LogFull.end-is))

pub returns-in-Err-LogFull-clause-untouched : goal.returns-in-Err-LogFull-clause-untouched
returns-in-Err-LogFull-clause-untouched g c is_err other =
    c.in-Err-LogFull.ensures.unchanged ((c.in-Err-LogFull.ensures.full c.in-Err-LogFull.end).0 (ap Err c.in-Err-LogFull.field-0-is)).0

pub returns-clause-steps : goal.returns-clause-steps
returns-clause-steps g c =
    let old = c.args.self.now in
    let changes = c.args.changes.now in
    let numbers = c.in-Err-DiskFault.ensures.numbers in
    let counted = c.in-Err-DiskFault.ensures.faults in
    let device = device_of old.rows in
    let device' = device_of c.append.new.self in
    fails old _ changes c.in-Ok.ensures.settings c.in-Ok.ensures.limits refl c.in-None.is _ refl
    (counted.rose (ap Err c.in-Err-DiskFault.field-0-is)) counted.never_falls (omega (arith, c.faults.ensures, c.faults-in-Err-DiskFault.ensures))
    (λ running stands going.
    is_committed running changes (engine_limits old) c.in-Ok.ensures.planned.0 going
    (same_rows running.state old stands.has.keeps changes (Ok c.in-Ok.ensures.planned.0) c.in-Ok.ensures.planned.1)
    (not_past rows_magic (payloads running.state) (engine_limits old).log_bytes old.rows stands.has.keeps.log c.in-Ok-framed_commit.framed (commit_payload changes) c.in-Ok-framed_commit.ensures.framed
    (λ past. let no = (c.in-Err-DiskFault.ensures.full (log.end_after old.rows c.in-Ok-framed_commit.framed)).1 (past, refl) in cc)))
    (λ running stands.
    let keeps = stands.has.keeps in
    keeps_with running.state old keeps _ c.in-Ok.ensures.settings c.in-Ok.ensures.rows c.in-Ok.ensures.limits running.state.entries keeps.entries
    (as_before rows_magic (payloads running.state) (engine_limits old).log_bytes old.rows keeps.log c.append.new.self numbers.making.magic numbers.making.limit numbers.uncounted numbers.ungrown)
    keeps.index)
    (λ t files told le may. g.met.D.Disk.counts_now device' t files told le may) (λ told. g.met.D.Disk.seen_may_stay device' told)
    (λ running stands told going. leaves_weaker g.D.Disk device device' _ (MayHold running.state (changes ∷ []))
    (holds_either running.state old stands.has.keeps changes (can_still running old stands changes c.requires) c.in-Ok.ensures.planned.0 c.in-Ok.ensures.planned.1 (g.D.Disk.images device) (g.D.Disk.seen device))
    (subst (λ (payload : List ℕ). LeavesOnly g.D.Disk device device' (IsBeforeOrAfter (log.magic_of old.rows) (payloads running.state) payload (g.D.Disk.images device) (g.D.Disk.seen device)))
    c.in-Ok-framed_commit.ensures.framed (c.in-Err-DiskFault.ensures.any_moment told (payloads running.state) (stands.logs told going).entries)))
    c.in-Ok.ensures.index
