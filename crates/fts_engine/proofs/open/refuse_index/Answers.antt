use Rattle.std.proofs.Common.{◌≡◌, ℕ, List, [], inl, inr, ap, sym, subst, ◌∙◌, arith}
use Rattle.std.specs.Prelude.{Err}
use Rattle.fts_disk.specs.Moments.{Looks}
use Rattle.fts_faults.specs.Count.{CountsFault}
use Rattle.fts_log.specs.Records.{records_device}
use Rattle.fts_log.proofs.Reading.{as_many, read_more}
use Rattle.fts_steps.specs.State.{rows_magic}
use Rattle.fts_engine.specs.Loading.{IsWrongEntry}
use Rattle.fts_engine.specs.declared.error.Device.TheVariants.{Rows}
use Rattle.fts_engine.specs.declared.error.ReadError.TheVariants as log
use Rattle.fts_engine.specs.declared.error.LoadError.TheVariants.{DiskFault}
use Rattle.fts_engine.proofs.Causes.{of_damage, counts_as, ok_no_err}
use Rattle.fts_engine.proofs.Gates.{wrong_damaged, torn_damaged}
use Rattle.fts_engine.proofs.Covering.{first_restored}
use Rattle.fts_engine.proofs.Opened.{whole_rows, found_here, broken_here, log_here}
use Rattle.fts_engine.proofs.open.refuse_index.Goals as goal

pub returns-in-Err-clause-damaged_rows : goal.returns-in-Err-clause-damaged_rows
returns-in-Err-clause-damaged_rows g c place e told =
    let rows = c.args.rows in
    let all = (c.requires.ready told).0 in
    let holds = (c.requires.ready told).1 in
    let damage = of_damage Rows Rows c.in-Err.error place (sym c.on.ensures ∙ e) in
    wrong_damaged all place (g.D.Disk.seen (records_device rows) 0) rows.found (found_here rows_magic all rows rows c.requires.magic holds)
    (subst (λ (magic : List ℕ). IsWrongEntry magic all place) c.requires.magic (c.in-Err.ensures.damaged place (ap Err damage.1) told all holds))

pub returns-clause-damaged_rows : goal.returns-clause-damaged_rows
returns-clause-damaged_rows g c place e told =
    let rows = c.args.rows in
    let mid = c.load_settings.new.records in
    let new = c.held_back-error.new.rows in
    let r = c.new-restoring.result in
    let bytes = g.D.Disk.seen (records_device rows) 0 in
    let all = (c.requires.ready told).0 in
    let holds = (c.requires.ready told).1 in
    let is_read = c.in-Ok.ensures.reads.read told in
    let start = first_restored all [] c.in-Ok.settings r (c.in-Ok.ensures.loaded told all holds) c.new-restoring.ensures.settings c.new-restoring.ensures.rows
    c.new-restoring.ensures.commits c.new-restoring.ensures.covers in
    elim (c.told_first.ensures.damaged_rows place e) [
      | inl same ↦
          wrong_damaged all place bytes rows.found (found_here rows_magic all rows rows c.requires.magic holds)
          (subst (λ (magic : List ℕ). IsWrongEntry magic all place) (c.in-Ok.ensures.reads.same.magic ∙ c.requires.magic)
          (c.held_back-error.ensures.rows place same told all [] 0 (is_read.stays all holds) start))
      | inr torn ↦
          (let both = read_more rows mid new is_read (c.held_back-error.ensures.reads.read told) in
          let sound = (c.held_back-error.ensures.index torn.0.0 torn.0.1).1 told all [] 0 (is_read.stays all holds) start in
          torn_damaged all place bytes (omega (arith, as_many all rows holds, c.requires.some)) (inr (sound.state, sound.sound, sound.same))
          (broken_here rows_magic all rows new c.requires.magic both place (torn.1 told all (both.stays all holds))))
    ]

pub returns-clause-damaged_index : goal.returns-clause-damaged_index
returns-clause-damaged_index g c place e =
    let rows = c.args.rows in
    let mid = c.load_settings.new.records in
    let new = c.held_back-error.new.rows in
    let r = c.new-restoring.result in
    let first = c.told_first.ensures.damaged_index place e in
    let damage = c.held_back-error.ensures.index place first.0 in (
      damage.0,
      λ told.
          let all = (c.requires.ready told).0 in
          let holds = (c.requires.ready told).1 in
          let is_read = c.in-Ok.ensures.reads.read told in
          let both = read_more rows mid new is_read (c.held_back-error.ensures.reads.read told) in
          let start = first_restored all [] c.in-Ok.settings r (c.in-Ok.ensures.loaded told all holds) c.new-restoring.ensures.settings c.new-restoring.ensures.rows
          c.new-restoring.ensures.commits c.new-restoring.ensures.covers in
          let sound = damage.1 told all [] 0 (is_read.stays all holds) start in
          (sound.state, whole_rows all (g.D.Disk.seen (records_device rows) 0) sound (log_here rows_magic all rows new c.requires.magic both (first.1 told all (both.stays all holds)))),
    )

pub returns-clause-looks : goal.returns-clause-looks
returns-clause-looks g c told =
    subst (λ device. Looks g.D.Disk (records_device c.args.rows) device) (sym c.told_first.ensures.device)
    (read_more c.args.rows c.load_settings.new.records c.held_back-error.new.rows (c.in-Ok.ensures.reads.read told) (c.held_back-error.ensures.reads.read told)).looks

pub returns-clause-faults : goal.returns-clause-faults
returns-clause-faults g c =
    let before = g.D.Disk.faults (records_device c.load_settings.new.records) in
    let after = g.D.Disk.faults (records_device c.held_back-error.new.rows) in
    let counts = counts_as (c.held_back-error.result ≡ DiskFault) (c.told_first.result.0 ≡ DiskFault) before after c.told_first.ensures.fault.0 c.told_first.ensures.fault.1 c.held_back-error.ensures.reads.faults in
    subst (λ (n : ℕ). CountsFault (c.told_first.result.0 ≡ DiskFault) n (g.D.Disk.faults c.told_first.result.1)) (c.in-Ok.ensures.reads.faults.calm (ok_no_err c.in-Ok.settings log.DiskFault))
    (subst (λ device. CountsFault (c.told_first.result.0 ≡ DiskFault) before (g.D.Disk.faults device)) (sym c.told_first.ensures.device) counts)
