use Rattle.std.proofs.Common.{refl, subst, Ok}
use Rattle.fts_steps.specs.Step.{to_sync, Steps}
use Rattle.fts_steps.specs.Answers.{sync_answer_of, error_answer_of}
use Rattle.fts_steps.specs.declared.sync.SyncBatch.{SyncBatch}
use Rattle.fts_sessions.proofs.Flushing.{begun, one_more, the_last, arrived, ran_out, refusal_ends, below, not_below}
use Rattle.fts_sessions.proofs.index.flush_on.Goals as goal

pub loop-init : goal.loop-init
loop-init g c = λ settings transaction. begun g.S.EngineSteps.sight settings transaction c.args.first c.args.target c.args.steps.now

pub returns-then-through-target : goal.returns-then-through-target
returns-then-through-target g c =
    λ settings transaction.
    arrived g.S.EngineSteps.sight settings transaction c.args.first c.args.target c.args.steps.now c.loop.counter c.loop.through c.loop.steps (c.loop.invariant settings transaction)
    (not_below c.loop.through c.args.target c.if-through-target.true)

pub returns-in-Ok-Nothing : goal.returns-in-Ok-Nothing
returns-in-Ok-Nothing g c =
    λ settings transaction.
    the_last g.S.EngineSteps.sight settings transaction c.args.first c.args.target c.args.steps.now c.loop.counter c.loop.through c.loop.steps (c.loop.invariant settings transaction) _ _
    c.sync_batch.new.self (below c.loop.through c.args.target c.if-through-target.false) (below c.loop.counter c.args.target c.loop-test.true)
    (subst (λ (batch : SyncBatch). Steps g.S.EngineSteps.sight to_sync (sync_answer_of (Ok batch)) c.loop.steps c.sync_batch.new.self) c.in-Ok-Nothing.field-0-is
    c.in-Ok-Nothing.ensures)
    refl (λ target count. refl)

pub returns-in-Err : goal.returns-in-Err
returns-in-Err g c =
    λ settings transaction.
    the_last g.S.EngineSteps.sight settings transaction c.args.first c.args.target c.args.steps.now c.loop.counter c.loop.through c.loop.steps (c.loop.invariant settings transaction)
    (error_answer_of c.in-Err.error) c.not_made.result c.sync_batch.new.self (below c.loop.through c.args.target c.if-through-target.false)
    (below c.loop.counter c.args.target c.loop-test.true) c.in-Err.ensures c.not_made.ensures (refusal_ends c.in-Err.error)

pub loop-preserved : goal.loop-preserved
loop-preserved g c =
    λ settings transaction.
    one_more g.S.EngineSteps.sight settings transaction c.args.first c.args.target c.args.steps.now c.loop.counter c.loop.through c.loop.steps (c.loop.invariant settings transaction) _ _
    c.sync_batch.new.self (below c.loop.through c.args.target c.if-through-target.false) (below c.loop.counter c.args.target c.loop-test.true)
    (subst (λ (batch : SyncBatch). Steps g.S.EngineSteps.sight to_sync (sync_answer_of (Ok batch)) c.loop.steps c.sync_batch.new.self) c.in-Ok-Flushed.field-0-is
    c.in-Ok-Flushed.ensures)

pub returns : goal.returns
returns g c =
    λ settings transaction.
    ran_out g.S.EngineSteps.sight settings transaction c.args.first c.args.target c.args.steps.now c.loop.counter c.loop.through c.loop.steps (c.loop.invariant settings transaction)
    (not_below c.loop.counter c.args.target c.loop-test.false)
