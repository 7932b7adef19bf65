use Rattle.std.proofs.Common.{◌∙◌, Err, refl, sym, subst}
use Rattle.fts_commits.specs.Commit.{Commit}
use Rattle.fts_steps.specs.Step.{to_commit, committed, no_memory}
use Rattle.fts_steps.specs.Step as step
use Rattle.fts_steps.specs.Answers.{commit_answer_of}
use Rattle.fts_steps.specs.declared.commit.CommitError.TheVariants.{NoMemory}
use Rattle.fts_engine.specs.Stands.{engine_sight}
use Rattle.fts_engine.proofs.Steps.{refuses}
use Rattle.fts_core.specs.declared.event.Event.TheVariants as event
use Rattle.fts_core.specs.declared.event.Outcome.TheVariants as outcome
use Rattle.fts_core.specs.declared.world.Place.TheVariants.{Open}
use Rattle.fts_core.proofs.Stepping.{turned_refused, turned_failed, turned_made, with_room, without_room}
use Rattle.fts_core.proofs.commit.commit_on.Goals as goal

pub returns-in-Err : goal.returns-in-Err
returns-in-Err g c told told' core fits can =
    let old = c.args.engine in
    let more = c.reserve.new.self in
    without_room core (Open old) c.args.acknowledged more c.args.doubt c.args.last c.reserve.ensures.items (event.Commit c.args.changes) (outcome.Committed (Err NoMemory)) _
    (turned_refused (record { told = told; stay = λ d. g.met.D.Disk.seen_may_stay d told; only = λ d files. g.met.D.Disk.only_now d files told })
    (record { told = told'; stay = λ d. g.met.E.Disk.seen_may_stay d told'; only = λ d files. g.met.E.Disk.only_now d files told' })
    core old old more c.args.doubt c.args.last (with_room core (Open old) c.args.acknowledged more c.args.doubt c.args.last c.reserve.ensures.items fits) c.args.changes c.requires NoMemory
    (refuses old old refl refl refl refl refl refl (λ commits s is. is) (to_commit c.args.changes) no_memory refl refl (λ running stands. tt)) refl refl refl _ c.behind.ensures)

pub returns-in-Ok-commit : goal.returns-in-Ok-commit
returns-in-Ok-commit g c told told' core fits can =
    let old = c.args.engine in
    let more = c.reserve.new.self in
    without_room core (Open old) c.args.acknowledged more c.args.doubt c.args.last c.reserve.ensures.items (event.Commit c.args.changes) _ _
    (turned_made (record { told = told; stay = λ d. g.met.D.Disk.seen_may_stay d told; only = λ d files. g.met.D.Disk.only_now d files told })
    (record { told = told'; stay = λ d. g.met.E.Disk.seen_may_stay d told'; only = λ d files. g.met.E.Disk.only_now d files told' })
    core old c.commit.new.self more c.args.doubt c.args.last (with_room core (Open old) c.args.acknowledged more c.args.doubt c.args.last c.reserve.ensures.items fits) c.args.changes c.requires
    (λ commits. record { ascend = c.are_turns.ensures.ascend commits; lead = c.are_turns.ensures.rows commits }) c.in-Ok-commit.number
    (subst (λ (commit : Commit). step.Steps engine_sight (to_commit commit) (committed c.in-Ok-commit.number) old c.commit.new.self) c.as_slice.ensures c.in-Ok-commit.ensures.steps) c.in-Ok-commit.ensures.index
    c.acknowledging.result c.acknowledging.ensures.place c.acknowledging.ensures.acknowledged c.acknowledging.ensures.doubt c.acknowledging.ensures.last)

pub returns-then-is_fault : goal.returns-then-is_fault
returns-then-is_fault g c told told' core fits can =
    let old = c.args.engine in
    let more = c.reserve.new.self in
    without_room core (Open old) c.args.acknowledged more c.args.doubt c.args.last c.reserve.ensures.items (event.Commit c.args.changes) _ _
    (turned_failed (record { told = told; stay = λ d. g.met.D.Disk.seen_may_stay d told; only = λ d files. g.met.D.Disk.only_now d files told })
    (record { told = told'; stay = λ d. g.met.E.Disk.seen_may_stay d told'; only = λ d files. g.met.E.Disk.only_now d files told' })
    core old c.commit.new.self more c.args.doubt c.args.last (with_room core (Open old) c.args.acknowledged more c.args.doubt c.args.last c.reserve.ensures.items fits) c.args.changes c.requires
    (λ commits. record { ascend = c.are_turns.ensures.ascend commits; lead = c.are_turns.ensures.rows commits }) c.in-Err-commit.error
    (subst (λ (commit : Commit). step.Steps engine_sight (to_commit commit) (commit_answer_of (Err c.in-Err-commit.error)) old c.commit.new.self) c.as_slice.ensures c.in-Err-commit.ensures.steps)
    (sym c.is_fault-is_fault.ensures ∙ c.if-is_fault.true) c.in-Err-commit.ensures.index _ c.behind-then-is_fault.ensures)

pub returns : goal.returns
returns g c told told' core fits can =
    let old = c.args.engine in
    let more = c.reserve.new.self in
    let calm = sym c.is_fault-is_fault.ensures ∙ c.if-is_fault.false in
    without_room core (Open old) c.args.acknowledged more c.args.doubt c.args.last c.reserve.ensures.items (event.Commit c.args.changes) _ _
    (turned_refused (record { told = told; stay = λ d. g.met.D.Disk.seen_may_stay d told; only = λ d files. g.met.D.Disk.only_now d files told })
    (record { told = told'; stay = λ d. g.met.E.Disk.seen_may_stay d told'; only = λ d files. g.met.E.Disk.only_now d files told' })
    core old c.commit.new.self more c.args.doubt c.args.last (with_room core (Open old) c.args.acknowledged more c.args.doubt c.args.last c.reserve.ensures.items fits) c.args.changes c.requires c.in-Err-commit.error
    (subst (λ (commit : Commit). step.Steps engine_sight (to_commit commit) (commit_answer_of (Err c.in-Err-commit.error)) old c.commit.new.self) c.as_slice.ensures c.in-Err-commit.ensures.steps)
    calm (c.in-Err-commit.ensures.untouched refl calm) c.in-Err-commit.ensures.index _ c.behind-in-Err-commit.ensures)
