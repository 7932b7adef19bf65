use Rattle.std.proofs.Common.{ℕ, refl, subst}
use Rattle.std.specs.Prelude.{Result, Ok}
use Rattle.fts_schema.specs.declared.reply.Reply.TheVariants.{CommittedAndBegun}
use Rattle.fts_steps.specs.declared.commit.CommitError.{CommitError}
use Rattle.fts_steps.specs.Answers.{commit_answer_of}
use Rattle.fts_steps.specs.Step.{to_commit, Steps}
use Rattle.fts_sessions.specs.Transaction.{changes_in}
use Rattle.fts_sessions.proofs.Changing.{begins_anew, begins_behind, begin_refused}
use Rattle.fts_sessions.proofs.commits.begin.Goals as goal

pub returns-in-None-clause-goes : goal.returns-in-None-clause-goes
returns-in-None-clause-goes g c =
    begins_anew g.S.EngineSteps.sight (g.S.EngineSteps.sight.settings c.args.steps.now) c.args.transaction.now c.args.steps.now c.commit_changes.new.steps
    c.in-None.ensures.none.0 c.in-None.ensures.none.1

pub returns-in-Some-Ok-clause-goes : goal.returns-in-Some-Ok-clause-goes
returns-in-Some-Ok-clause-goes g c =
    let sight = g.S.EngineSteps.sight in
    begins_behind sight (sight.settings c.args.steps.now) c.args.transaction.now c.args.steps.now c.commit_changes.new.steps (Ok c.in-Some-Ok.number) (CommittedAndBegun c.in-Some-Ok.number)
    c.in-Some-Ok.ensures.some.0
    (subst (λ (made : Result ℕ CommitError). Steps sight (to_commit (changes_in c.args.transaction.now)) (commit_answer_of made) c.args.steps.now c.commit_changes.new.steps)
    c.in-Some-Ok.field-0-is c.in-Some-Ok.ensures.some.1) refl

pub returns-in-Some-Err-clause-goes : goal.returns-in-Some-Err-clause-goes
returns-in-Some-Err-clause-goes g c =
    let sight = g.S.EngineSteps.sight in
    begin_refused sight (sight.settings c.args.steps.now) c.args.transaction.now c.args.steps.now c.commit_changes.new.steps c.in-Some-Err.error c.refuse.result
    c.in-Some-Err.ensures.some.0
    (subst (λ (made : Result ℕ CommitError). Steps sight (to_commit (changes_in c.args.transaction.now)) (commit_answer_of made) c.args.steps.now c.commit_changes.new.steps)
    c.in-Some-Err.field-0-is c.in-Some-Err.ensures.some.1)
    c.refuse.ensures.told
