use Rattle.std.proofs.Common.{◌≡◌, ℕ, IsTrue, subst}
use Rattle.std.proofs.lemmas.Result.{IfErr-weaker}
use Rattle.fts_disk.specs.Device.{Files}
use Rattle.fts_log.specs.Records.{records_device}
use Rattle.fts_engine.specs.Opening.{IsDamaged}
use Rattle.fts_engine.specs.declared.error.RowsError.TheVariants.{Damaged}
use Rattle.fts_engine.proofs.open.read_rows.Goals as goal

pub returns-in-Ok-clause-damaged : goal.returns-in-Ok-clause-damaged
returns-in-Ok-clause-damaged g c =
    IfErr-weaker c.some_records.result
    (λ e. (at : ℕ) → e.0 ≡ Damaged at → IsTrue g.D.Disk.tells → IsDamaged at (g.D.Disk.seen (records_device c.in-Ok.records) 0))
    (λ e. (at : ℕ) → e.0 ≡ Damaged at → IsTrue g.D.Disk.tells → IsDamaged at (g.D.Disk.seen c.args.rows 0))
    (λ e damaged at is told. subst (λ (files : Files). IsDamaged at (files 0)) (c.in-Ok.ensures.looks told).seen (damaged at is told))
    c.some_records.ensures.damaged

pub returns-in-Err-Damaged-default-clause-damaged : goal.returns-in-Err-Damaged-default-clause-damaged
returns-in-Err-Damaged-default-clause-damaged g c at e told =
    subst (λ (files : Files). IsDamaged at (files 0)) (c.in-Err-Damaged-default.ensures.looks told).seen (c.tell_damage.ensures.damaged at e told)
