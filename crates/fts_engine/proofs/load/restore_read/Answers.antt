use Rattle.std.proofs.Common.{◌≡◌, ◌+◌, ◌∷◌, ◌++◌, [], take, subst, sym}
use Rattle.fts_log.specs.Records.{records_device}
use Rattle.fts_log.proofs.Reading.{read_none}
use Rattle.fts_ixcodec.specs.Payload.{entry_payload}
use Rattle.fts_steps.specs.State.{index_state}
use Rattle.fts_engine.specs.Loading.{NoneCanCome}
use Rattle.fts_engine.specs.ReadEntry.{entry_read}
use Rattle.fts_engine.specs.declared.load.ReadEntry.{ReadEntry}
use Rattle.fts_engine.specs.declared.error.ReadError.TheVariants.{DiskFault}
use Rattle.fts_engine.proofs.OneLog.{reads_none, reads_told}
use Rattle.fts_engine.proofs.load.restore_read.Goals as goal

pub returns-in-Batch-clause-restored : goal.returns-in-Batch-clause-restored
returns-in-Batch-clause-restored g c e told all read j holds was taken =
    c.restore_batch.ensures.restored e told all read j holds was
    (subst (λ (entry : ReadEntry). take (j + 1) read ≡ take j read ++ entry_payload (entry_read entry) ∷ []) c.in-Batch.is taken)

pub returns-in-Batch-clause-refused : goal.returns-in-Batch-clause-refused
returns-in-Batch-clause-refused g c e told all read j holds was =
    let refused = c.restore_batch.ensures.refused e told all read j holds was in (
      refused.0,
      subst (λ (entry : ReadEntry). NoneCanCome all (index_state was.of_rows.state) (entry_read entry)) (sym c.in-Batch.is) refused.1,
    )

pub returns-in-Step-clause-restored : goal.returns-in-Step-clause-restored
returns-in-Step-clause-restored g c e told all read j holds was taken =
    c.restore_step.ensures.restored e all read j was
    (subst (λ (entry : ReadEntry). take (j + 1) read ≡ take j read ++ entry_payload (entry_read entry) ∷ []) c.in-Step.is taken)

pub returns-in-Step-clause-refused : goal.returns-in-Step-clause-refused
returns-in-Step-clause-refused g c e told all read j holds was =
    let refused = c.restore_step.ensures.refused e all read j was in (
      refused.0,
      subst (λ (entry : ReadEntry). NoneCanCome all (index_state was.of_rows.state) (entry_read entry)) (sym c.in-Step.is) refused.1,
    )

pub returns-in-Step-clause-reads : goal.returns-in-Step-clause-reads
returns-in-Step-clause-reads g c =
    let rows = c.args.rows.now in
    reads_told ⊥ _ rows rows (λ told. absurd (let no = c.restore_step.ensures.memory DiskFault told in cc)) (λ none. absurd none)
    (reads_none rows (λ told. read_none rows (λ files left. g.met.D.Disk.only_now (records_device rows) files told left)))
