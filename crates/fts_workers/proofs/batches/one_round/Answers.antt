use Rattle.std.proofs.Common.{subst, Ok, Err}
use Rattle.fts_steps.specs.Step.{to_sync, Steps}
use Rattle.fts_steps.specs.Answers.{sync_answer_of}
use Rattle.fts_steps.specs.declared.sync.SyncBatch.{SyncBatch}
use Rattle.fts_steps.specs.declared.index_error.IndexError.{IndexError}
use Rattle.fts_workers.proofs.OneRound.{within, more, last_of_all, starved, has_no_room, fails, refused}
use Rattle.fts_workers.proofs.batches.one_round.Goals as goal

pub returns-then-size-cache_bytes : goal.returns-then-size-cache_bytes
returns-then-size-cache_bytes g c =
    within g.S.EngineSteps.sight c.args.steps.now c.cache_size-size.new.self c.cache_size-size.result c.cache_bytes.result c.cache_size-size.ensures c.cache_bytes.ensures
    c.if-size-cache_bytes.true

pub returns-in-Ok-Flushed : goal.returns-in-Ok-Flushed
returns-in-Ok-Flushed g c =
    more g.S.EngineSteps.sight c.args.steps.now c.cache_size-size.new.self c.cache_size-size.result c.cache_bytes.result c.cache_size-size.ensures c.cache_bytes.ensures
    c.if-size-cache_bytes.false c.sync_batch.new.self _ _
    (subst (λ (batch : SyncBatch). Steps g.S.EngineSteps.sight to_sync (sync_answer_of (Ok batch)) c.cache_size-size.new.self c.sync_batch.new.self)
    c.in-Ok-Flushed.field-0-is c.in-Ok-Flushed.ensures)

pub returns-in-Ok-Nothing : goal.returns-in-Ok-Nothing
returns-in-Ok-Nothing g c =
    last_of_all g.S.EngineSteps.sight c.args.steps.now c.cache_size-size.new.self c.cache_size-size.result c.cache_bytes.result c.cache_size-size.ensures c.cache_bytes.ensures
    c.if-size-cache_bytes.false c.sync_batch.new.self _
    (subst (λ (batch : SyncBatch). Steps g.S.EngineSteps.sight to_sync (sync_answer_of (Ok batch)) c.cache_size-size.new.self c.sync_batch.new.self)
    c.in-Ok-Nothing.field-0-is c.in-Ok-Nothing.ensures)

pub returns-in-Err-NoMemory : goal.returns-in-Err-NoMemory
returns-in-Err-NoMemory g c =
    starved g.S.EngineSteps.sight c.args.steps.now c.cache_size-size.new.self c.cache_size-size.result c.cache_bytes.result c.cache_size-size.ensures c.cache_bytes.ensures
    c.if-size-cache_bytes.false c.sync_batch.new.self
    (subst (λ (error : IndexError). Steps g.S.EngineSteps.sight to_sync (sync_answer_of (Err error)) c.cache_size-size.new.self c.sync_batch.new.self)
    c.in-Err-NoMemory.field-0-is c.in-Err-NoMemory.ensures)

pub returns-in-Err-LogFull : goal.returns-in-Err-LogFull
returns-in-Err-LogFull g c =
    has_no_room g.S.EngineSteps.sight c.args.steps.now c.cache_size-size.new.self c.cache_size-size.result c.cache_bytes.result c.cache_size-size.ensures c.cache_bytes.ensures
    c.if-size-cache_bytes.false c.sync_batch.new.self _
    (subst (λ (error : IndexError). Steps g.S.EngineSteps.sight to_sync (sync_answer_of (Err error)) c.cache_size-size.new.self c.sync_batch.new.self)
    c.in-Err-LogFull.field-0-is c.in-Err-LogFull.ensures)

pub returns-in-Err-DiskFault : goal.returns-in-Err-DiskFault
returns-in-Err-DiskFault g c =
    fails g.S.EngineSteps.sight c.args.steps.now c.cache_size-size.new.self c.cache_size-size.result c.cache_bytes.result c.cache_size-size.ensures c.cache_bytes.ensures
    c.if-size-cache_bytes.false c.sync_batch.new.self _
    (subst (λ (error : IndexError). Steps g.S.EngineSteps.sight to_sync (sync_answer_of (Err error)) c.cache_size-size.new.self c.sync_batch.new.self)
    c.in-Err-DiskFault.field-0-is c.in-Err-DiskFault.ensures)

pub returns-in-Err-Stopped : goal.returns-in-Err-Stopped
returns-in-Err-Stopped g c =
    refused g.S.EngineSteps.sight c.args.steps.now c.cache_size-size.new.self c.cache_size-size.result c.cache_bytes.result c.cache_size-size.ensures c.cache_bytes.ensures
    c.if-size-cache_bytes.false c.sync_batch.new.self _
    (subst (λ (error : IndexError). Steps g.S.EngineSteps.sight to_sync (sync_answer_of (Err error)) c.cache_size-size.new.self c.sync_batch.new.self)
    c.in-Err-Stopped.field-0-is c.in-Err-Stopped.ensures)
