use Rattle.std.proofs.Common.{sym, subst, ◌∙◌}
use Rattle.fts_disk.specs.Device.{Files}
use Rattle.fts_disk.proofs.Runs.{looks_more}
use Rattle.fts_log.specs.Records.{records_device}
use Rattle.fts_engine.specs.Opening.{IsDamaged, IsIndexDamaged}
use Rattle.fts_engine.specs.declared.error.Device.TheVariants.{Rows, Index}
use Rattle.fts_engine.proofs.Causes.{of_rows_damage, of_read_damage}
use Rattle.fts_engine.proofs.open.open_engine.Goals as goal

pub returns-in-Err-clause-damaged_rows : goal.returns-in-Err-clause-damaged_rows
returns-in-Err-clause-damaged_rows g c file at e =
    let damage = of_rows_damage Rows c.in-Err.error file at (sym c.from.ensures ∙ e) in
    (damage.1, λ told. c.in-Err.ensures.damaged at damage.2 told)

pub returns-in-Ok-open_records-clause-looks_rows : goal.returns-in-Ok-open_records-clause-looks_rows
returns-in-Ok-open_records-clause-looks_rows g c told =
    looks_more g.D.Disk c.args.rows (records_device c.in-Ok.rows) _ (c.in-Ok.ensures.looks told) (c.in-Ok-open_records.ensures.looks_rows told)

pub returns-in-Ok-open_records-clause-looks_index : goal.returns-in-Ok-open_records-clause-looks_index
returns-in-Ok-open_records-clause-looks_index g c told =
    looks_more g.E.Disk c.args.index (records_device c.in-Ok-read_records.entries) _ (c.in-Ok-read_records.ensures.looks told) (c.in-Ok-open_records.ensures.looks_index told)

pub returns-in-Err-open_records-clause-damaged_rows : goal.returns-in-Err-open_records-clause-damaged_rows
returns-in-Err-open_records-clause-damaged_rows g c file at e =
    let damage = of_read_damage Rows c.in-Err-open_records.error file at (sym c.from-in-Err-open_records.ensures ∙ e) in (
      damage.0,
      λ told. subst (λ (files : Files). IsDamaged at (files 0)) (c.in-Ok.ensures.looks told).seen (c.in-Err-open_records.ensures.damaged_rows at damage.1 told),
    )

pub returns-in-Err-open_records-clause-damaged_index : goal.returns-in-Err-open_records-clause-damaged_index
returns-in-Err-open_records-clause-damaged_index g c file at e =
    let damage = of_read_damage Index c.in-Err-open_records.error file at (sym c.from-in-Err-open_records.ensures ∙ e) in (
      damage.0,
      λ told told_index.
          subst (λ (files : Files). IsIndexDamaged at (g.D.Disk.seen c.args.rows 0) (files 0)) (c.in-Ok-read_records.ensures.looks told_index).seen
          (subst (λ (files : Files). IsIndexDamaged at (files 0) (g.E.Disk.seen (records_device c.in-Ok-read_records.entries) 0)) (c.in-Ok.ensures.looks told).seen
          (c.in-Err-open_records.ensures.damaged_index at damage.1 told told_index)),
    )

pub returns-in-Err-Damaged-default-clause-damaged_rows : goal.returns-in-Err-Damaged-default-clause-damaged_rows
returns-in-Err-Damaged-default-clause-damaged_rows g c file at e =
    let damage = of_read_damage Rows c.refuse_index-error.result.0 file at (sym c.from-in-Err-Damaged-default.ensures ∙ e) in
    (damage.0, λ told. subst (λ (files : Files). IsDamaged at (files 0)) (c.in-Ok.ensures.looks told).seen (c.refuse_index-error.ensures.damaged_rows at damage.1 told))
