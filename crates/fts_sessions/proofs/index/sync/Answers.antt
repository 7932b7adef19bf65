use Rattle.std.proofs.Common.{[], refl, subst, Ok}
use Rattle.fts_steps.specs.Step.{to_sync, flushed, Steps}
use Rattle.fts_steps.specs.Answers.{sync_answer_of, error_answer_of}
use Rattle.fts_steps.specs.declared.sync.SyncBatch.{SyncBatch}
use Rattle.fts_sessions.specs.Request.{syncs}
use Rattle.fts_sessions.proofs.Going.{behind_step, last_step}
use Rattle.fts_sessions.proofs.Flushing.{refusal_ends}
use Rattle.fts_sessions.proofs.index.sync.Goals as goal

pub returns-in-Ok-Flushed : goal.returns-in-Ok-Flushed
returns-in-Ok-Flushed g c = λ transaction.
    let settings = g.S.EngineSteps.sight.settings c.args.steps.now in
    behind_step g.S.EngineSteps.sight settings transaction syncs [] to_sync c.args.steps.now c.sync_batch.new.self (flushed c.in-Ok-Flushed.through c.in-Ok-Flushed.commits)
    (subst (λ (batch : SyncBatch). Steps g.S.EngineSteps.sight to_sync (sync_answer_of (Ok batch)) c.args.steps.now c.sync_batch.new.self) c.in-Ok-Flushed.field-0-is
    c.in-Ok-Flushed.ensures)
    refl c.flush_on.result c.flush_on.new.steps (c.flush_on.ensures settings transaction) refl

pub returns-in-Ok-Nothing : goal.returns-in-Ok-Nothing
returns-in-Ok-Nothing g c = λ transaction.
    last_step g.S.EngineSteps.sight (g.S.EngineSteps.sight.settings c.args.steps.now) transaction syncs [] to_sync c.args.steps.now c.sync_batch.new.self _
    (subst (λ (batch : SyncBatch). Steps g.S.EngineSteps.sight to_sync (sync_answer_of (Ok batch)) c.args.steps.now c.sync_batch.new.self) c.in-Ok-Nothing.field-0-is
    c.in-Ok-Nothing.ensures)
    refl _ refl refl

pub returns-in-Err : goal.returns-in-Err
returns-in-Err g c = λ transaction.
    last_step g.S.EngineSteps.sight (g.S.EngineSteps.sight.settings c.args.steps.now) transaction syncs [] to_sync c.args.steps.now c.sync_batch.new.self (error_answer_of c.in-Err.error)
    c.in-Err.ensures refl c.not_made.result c.not_made.ensures (refusal_ends c.in-Err.error _ _)
