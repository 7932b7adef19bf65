use Rattle.std.proofs.Common.{ap}
use Rattle.std.specs.Prelude.{Err}
use Rattle.fts_entries.proofs.Stepping.{step_comes}
use Rattle.fts_index.specs.Passing.{step_entry}
use Rattle.fts_steps.specs.State.{turns_of, index_state}
use Rattle.fts_engine.proofs.Covering.{installed_more, restored_still, next_comes}
use Rattle.fts_engine.proofs.load.restore_step.Goals as goal

pub returns-in-Ok-clause-restored : goal.returns-in-Ok-clause-restored
returns-in-Ok-clause-restored c e all read j was taken =
    let ensured = c.in-Ok.ensures in
    let state = was.of_rows.state in
    let made = ensured.stepped state.commits (index_state state) was.covers in
    installed_more all read j c.args.restoring.now c.restore_step.new.self was (step_entry c.args.step.now) ensured.rows ensured.settings ensured.commits c.requires.written taken
    (step_comes (turns_of state) (index_state state) (step_entry c.args.step.now) made.0) made.1

pub returns-in-Err-Bad-clause-refused : goal.returns-in-Err-Bad-clause-refused
returns-in-Err-Bad-clause-refused c e all read j was =
    let ensured = c.in-Err-Bad.ensures in
    let bad = ap Err c.in-Err-Bad.field-0-is in
    let state = was.of_rows.state in (
      restored_still all read j c.args.restoring.now c.restore_step.new.self was ensured.rows ensured.settings ensured.commits (ensured.stays bad),
      λ whole sound same come. ensured.bad bad state.commits (index_state state) was.covers (next_comes (turns_of whole) (index_state state) c.args.step.now come),
    )
