use Rattle.std.proofs.Common.{sym, subst, ap, arith}
use Rattle.std.specs.Prelude.{Err}
use Rattle.fts_types.specs.declared.settings.Settings.{Settings}
use Rattle.fts_types.specs.Rules.{rules_of}
use Rattle.fts_rows.specs.Rows.{rows_of}
use Rattle.fts_entries.specs.Entry.{Batch, IndexState, sealed}
use Rattle.fts_entries.specs.Coming.{CanSeal}
use Rattle.fts_index.specs.Restore.{AreRead}
use Rattle.fts_ixcodec.specs.Payload.{IsEntry}
use Rattle.fts_log.proofs.Reading.{as_many}
use Rattle.fts_steps.specs.State.{turns_of, index_state}
use Rattle.fts_engine.specs.Restoring.{restoring_settings, IsInstalled}
use Rattle.fts_engine.specs.Loading.{NoneCanCome}
use Rattle.fts_engine.specs.ReadEntry.{batch_read}
use Rattle.fts_engine.proofs.Replaying.{none_noted}
use Rattle.fts_engine.proofs.Covering.{installed_more, restored_still, none_later, none_made, none_here, words_read}
use Rattle.fts_engine.proofs.load.restore_batch.Goals as goal

pub returns-in-Err-clause-damaged : goal.returns-in-Err-clause-damaged
returns-in-Err-clause-damaged g c at e told all read j holds was = c.in-Err.ensures.damaged at (let same = e in cc) told all read j holds was

pub returns-in-Ok-restore-clause-restored : goal.returns-in-Ok-restore-clause-restored
returns-in-Ok-restore-clause-restored g c e told all read j holds was taken =
    let batch = c.args.batch.now in
    let covered = (c.in-Ok.ensures.covered told all read j holds was).is in
    let ensured = c.in-Ok-restore.ensures in
    let installed = subst (λ (nodes : Batch). IsInstalled covered.of_rows.state.commits (index_state covered.of_rows.state) batch.through batch.synced nodes c.restore.new.self) c.deref.ensures.value
    (ensured.restored covered.of_rows.state.commits (index_state covered.of_rows.state) covered.covers) in
    installed_more all read j c.cover_commits.new.restoring c.restore.new.self covered (batch_read batch)
    ensured.rows ensured.settings ensured.commits
    (subst (λ (s : Settings). IsEntry (rules_of s) (batch_read batch)) (sym c.cover_commits.ensures.settings) c.requires.written) taken installed.can installed.covers

pub returns-then-batch-flushed-clause-refused : goal.returns-then-batch-flushed-clause-refused
returns-then-batch-flushed-clause-refused g c e told all read j holds was = (
  was,
  none_later all read j c.args.restoring.now was c.args.batch.now.through c.args.batch.now.synced c.args.batch.now.nodes.items
      (omega (arith, c.if-batch-flushed.true, c.flushed.ensures was.of_rows.state.commits (index_state was.of_rows.state) was.covers)),
)

pub returns-then-batch-count-clause-refused : goal.returns-then-batch-count-clause-refused
returns-then-batch-count-clause-refused g c e told all read j holds was = (
  was,
  none_made all read j c.args.restoring.now was c.args.batch.now.through c.args.batch.now.synced c.args.batch.now.nodes.items
      (omega (arith, as_many all c.args.rows.now holds, c.count.ensures, c.if-batch-count.true)),
)

pub returns-in-Err-Bad-clause-refused : goal.returns-in-Err-Bad-clause-refused
returns-in-Err-Bad-clause-refused g c e told all read j holds was =
    let batch = c.args.batch.now in
    let r = c.args.restoring.now in
    let mid = c.cover_commits.new.restoring in
    let still = c.in-Ok.ensures.covered told all read j holds was in
    let covered = still.is in
    let ensured = c.in-Err-Bad.ensures in
    let bad = ap Err c.in-Err-Bad.field-0-is in
    let state = covered.of_rows.state in
    let noted = none_noted r.settings (rows_of r.rows) r.index r.covered r.commits was.of_rows.state.commits (index_state was.of_rows.state) was.covers c.requires.flushed in
    let flushed = c.flushed.ensures was.of_rows.state.commits (index_state was.of_rows.state) was.covers in
    let there = c.in-Ok.ensures.commits (omega (arith, noted, flushed, c.if-batch-flushed.false)) in
    let counted = covered.covers.counted in (
      restored_still all read j mid c.restore.new.self covered ensured.rows ensured.settings ensured.commits (ensured.stays bad),
      subst (λ (s : IndexState). NoneCanCome all s (sealed batch.through batch.synced batch.nodes.items)) still.state
          (none_here all read j mid covered batch.through batch.synced batch.nodes.items (omega (arith, there, counted))
          (λ can. ensured.bad bad state.commits (index_state state) covered.covers (omega (arith, there, counted))
          (subst (λ (nodes : Batch). CanSeal (turns_of state) (index_state state) batch.through batch.synced nodes) (sym c.deref.ensures.value) can))),
    )

pub restore-requires : goal.restore-requires
restore-requires g c =
    let batch = c.args.batch.now in
    subst AreRead (sym c.deref.ensures.value) (words_read (rules_of (restoring_settings c.args.restoring.now)) batch.through batch.synced batch.nodes.items c.requires.written)
