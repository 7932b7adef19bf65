use Rattle.std.proofs.Common.{◌≡◌, ℕ, List, refl, inl, inr, ap, sym, subst, ◌∙◌, arith, length}
use Rattle.std.specs.Prelude.{Ok, Err, IsErrOf}
use Rattle.fts_log.specs.Log.{StandsFor}
use Rattle.fts_log.specs.Records.{records_device}
use Rattle.fts_log.proofs.Reading.{as_many}
use Rattle.fts_types.specs.declared.limits.Limits.{Limits}
use Rattle.fts_types.specs.Limits.{standard_limits}
use Rattle.fts_steps.specs.State.{rows_magic, index_magic, payloads, index_payloads, index_state}
use Rattle.fts_steps.specs.Running.{opened}
use Rattle.fts_engine.specs.Bounds.{AreWithin}
use Rattle.fts_engine.specs.Kept.{kept_settings, kept_rows}
use Rattle.fts_engine.specs.Loading.{IsWrongEntry, IsWrongAmong}
use Rattle.fts_engine.specs.Opening.{IsDamaged, IsIndexDamaged}
use Rattle.fts_engine.specs.declared.error.Device.TheVariants.{Rows, Index}
use Rattle.fts_engine.specs.declared.error.LoadError.{LoadError}
use Rattle.fts_engine.specs.declared.error.LoadError.TheVariants.{Damaged, DiskFault}
use Rattle.fts_engine.proofs.Causes.{same_damage, damage_no_fault, ok_no_err, counts_none}
use Rattle.fts_engine.proofs.Gates.{wrong_damaged, torn_damaged, wrong_index, torn_index}
use Rattle.fts_engine.proofs.Loading.{loaded_all}
use Rattle.fts_engine.proofs.Committing.{on_rows, on_index}
use Rattle.fts_engine.proofs.Opened.{keeps_log, whole_rows, of_index, found_here, broken_here, log_here, broken_first, log_first}
use Rattle.fts_engine.proofs.open.open_records.Goals as goal

pub returns-in-Err-clause-damaged_rows : goal.returns-in-Err-clause-damaged_rows
returns-in-Err-clause-damaged_rows g c at e told =
    let rows = c.args.rows in
    let bytes = g.D.Disk.seen (records_device rows) 0 in
    let all = (c.requires.ready told).0 in
    let holds = (c.requires.ready told).1 in
    elim (c.told_first-error.ensures.damaged_rows at e) [
      | inl same ↦
          wrong_damaged all at bytes rows.found (found_here rows_magic all rows rows c.requires.magic holds)
          (subst (λ (magic : List ℕ). IsWrongEntry magic all at) c.requires.magic
          (c.in-Err.ensures.damaged_rows at (ap Err same) told all holds))
      | inr torn ↦
          (let is_read = c.in-Err.ensures.reads.of_rows told in
          let sound = (c.in-Err.ensures.damaged_index torn.0.0 (ap Err torn.0.1) told all holds).0 in
          torn_damaged all at bytes (omega (arith, as_many all rows holds, c.requires.some)) (inr (sound.state, sound.sound, sound.same))
          (broken_here rows_magic all rows c.load.new.rows c.requires.magic is_read at (torn.1 told all (is_read.stays all holds))))
    ]

pub returns-in-Err-clause-damaged_index : goal.returns-in-Err-clause-damaged_index
returns-in-Err-clause-damaged_index g c at e told told_index =
    let rows = c.args.rows in
    let entries = c.args.entries in
    let bytes = g.D.Disk.seen (records_device rows) 0 in
    let index = g.E.Disk.seen (records_device entries) 0 in
    let first = c.told_first-error.ensures.damaged_index at e in
    let all = (c.requires.ready told).0 in
    let holds = (c.requires.ready told).1 in
    let read = (c.requires.index_ready told_index).0 in
    let holds_index = (c.requires.index_ready told_index).1 in
    let is_read = c.in-Err.ensures.reads.of_rows told in
    let wrong = c.in-Err.ensures.damaged_index at (ap Err first.0) told all holds in
    record {
      state = wrong.0.state;
      of_rows = whole_rows all bytes wrong.0 (log_here rows_magic all rows c.load.new.rows c.requires.magic is_read (first.1 told all (is_read.stays all holds)));
      place = wrong_index wrong.0.state wrong.0.sound all read at index entries.found wrong.0.same
          (found_here index_magic read entries entries c.requires.index_magic holds_index)
          (subst (λ (magic : List ℕ). IsWrongAmong magic all read at) c.requires.index_magic (wrong.1 told_index read holds_index));
    }

pub returns-in-Err-into_log-clause-damaged_rows : goal.returns-in-Err-into_log-clause-damaged_rows
returns-in-Err-into_log-clause-damaged_rows g c at e told =
    let rows = c.args.rows in
    let bytes = g.D.Disk.seen (records_device rows) 0 in
    let all = (c.requires.ready told).0 in
    let holds = (c.requires.ready told).1 in
    let is_read = c.in-Ok.ensures.reads.of_rows told in
    let sound = (c.in-Ok.ensures.loaded told all holds).0 in
    subst (λ (at : ℕ). IsDamaged at bytes) (same_damage Rows Rows c.in-Err-into_log.at at e).1
    (torn_damaged all c.in-Err-into_log.at bytes (omega (arith, as_many all rows holds, c.requires.some)) (inr (sound.state, sound.sound, sound.same))
    (broken_first rows_magic all rows c.load.new.rows c.requires.magic is_read c.in-Ok.ensures.reads.many_rows c.in-Err-into_log.at
    (c.in-Err-into_log.ensures.broken told all (is_read.stays all holds))))

pub returns-in-Err-into_log-2-clause-damaged_index : goal.returns-in-Err-into_log-2-clause-damaged_index
returns-in-Err-into_log-2-clause-damaged_index g c at e told told_index =
    let rows = c.args.rows in
    let entries = c.args.entries in
    let bytes = g.D.Disk.seen (records_device rows) 0 in
    let index = g.E.Disk.seen (records_device entries) 0 in
    let all = (c.requires.ready told).0 in
    let holds = (c.requires.ready told).1 in
    let read = (c.requires.index_ready told_index).0 in
    let holds_index = (c.requires.index_ready told_index).1 in
    let is_read = c.in-Ok.ensures.reads.of_rows told in
    let index_read = c.in-Ok.ensures.reads.of_index told_index in
    let loaded = (c.in-Ok.ensures.loaded told all holds).1 told_index read holds_index in
    let whole = loaded_all all (kept_settings c.in-Ok.kept) (kept_rows c.in-Ok.kept) loaded.of_rows in
    let log = c.in-Ok-into_log.rows in
    subst (λ (at : ℕ). IsIndexDamaged at bytes index) (same_damage Index Index c.in-Err-into_log-2.at at e).1
    record {
      state = loaded.of_rows.state;
      of_rows = whole_rows all bytes (record { state = loaded.of_rows.state; sound = loaded.of_rows.sound; same = whole })
          (log_first rows_magic all rows c.load.new.rows c.requires.magic is_read c.in-Ok.ensures.reads.many_rows log
          (c.in-Ok-into_log.ensures.whole told all (is_read.stays all holds)) c.in-Ok-into_log.ensures.kept.0 c.in-Ok-into_log.ensures.device);
      place = torn_index loaded.of_rows.state read c.in-Err-into_log-2.at index (of_index all (length all) read c.in-Ok.kept loaded)
          (broken_first index_magic read entries c.load.new.entries c.requires.index_magic index_read c.in-Ok.ensures.reads.many_index c.in-Err-into_log-2.at
          (c.in-Err-into_log-2.ensures.broken told_index read (index_read.stays read holds_index)));
    }

pub returns-in-Ok-into_log-2-clause-opened : goal.returns-in-Ok-into_log-2-clause-opened
returns-in-Ok-into_log-2-clause-opened g c told told_index =
    let all = (c.requires.ready told).0 in
    let holds = (c.requires.ready told).1 in
    let read = (c.requires.index_ready told_index).0 in
    let holds_index = (c.requires.index_ready told_index).1 in
    let reads = c.in-Ok.ensures.reads in
    let loaded = (c.in-Ok.ensures.loaded told all holds).1 told_index read holds_index in
    let state = loaded.of_rows.state in
    let whole = loaded_all all (kept_settings c.in-Ok.kept) (kept_rows c.in-Ok.kept) loaded.of_rows in
    let rows = c.in-Ok-into_log.rows in
    let index = c.in-Ok-into_log-2.index in
    let stands : StandsFor (payloads state) rows =
    subst (λ (entries : List (List ℕ)). StandsFor entries rows) (sym whole) (c.in-Ok-into_log.ensures.whole told all ((reads.of_rows told).stays all holds)) in
    let index_stands : StandsFor (index_payloads state) index =
    subst (λ (entries : List (List ℕ)). StandsFor entries index) (sym loaded.taken)
    (c.in-Ok-into_log-2.ensures.whole told_index read ((reads.of_index told_index).stays read holds_index)) in
    let limited = ap (λ (l : Limits). l.log_bytes) (sym c.set_limits.ensures.limits) in
    let log = keeps_log rows_magic (payloads state) _ rows stands (c.in-Ok-into_log.ensures.kept.0 ∙ reads.many_rows.magic ∙ c.requires.magic) (c.in-Ok-into_log.ensures.kept.1 ∙ limited) in
    let index_log = keeps_log index_magic (index_payloads state) _ index index_stands (c.in-Ok-into_log-2.ensures.kept.0 ∙ reads.many_index.magic ∙ c.requires.index_magic)
    (c.in-Ok-into_log-2.ensures.kept.1 ∙ limited) in (
      state,
      record {
        has = record {
          keeps = record {
            sound = loaded.of_rows.sound;
            entries = loaded.entries;
            settings = loaded.of_rows.same ∙ sym c.set_limits.ensures.settings;
            rows = c.set_limits.ensures.rows ∙ loaded.of_rows.kept;
            within = subst (λ (l : Limits). AreWithin standard_limits l) (sym c.set_limits.ensures.limits) c.requires.within;
            log = log;
            index = index_log;
          };
          indexed = c.set_limits.ensures.index state.commits (index_state state) loaded.index;
          left = refl;
          stopped = refl;
        };
        logs = λ again going. record { entries = stands; sure = refl };
        index_logs = λ again going. record { entries = index_stands; sure = refl };
        on_rows = λ again. on_rows (opened state) _ rows loaded.of_rows.sound log stands;
        on_index = λ again. on_index (opened state) _ index loaded.entries index_log index_stands;
      },
    )

pub returns-in-Err-into_log-clause-faults : goal.returns-in-Err-into_log-clause-faults
returns-in-Err-into_log-clause-faults g c =
    counts_none (IsErrOf {E = LoadError} (Ok c.in-Ok.kept) DiskFault) (Damaged Rows c.in-Err-into_log.at ≡ DiskFault)
    (g.D.Disk.faults (records_device c.args.rows)) (g.D.Disk.faults (records_device c.load.new.rows))
    (g.E.Disk.faults (records_device c.args.entries)) (g.E.Disk.faults (records_device c.load.new.entries))
    (g.D.Disk.faults c.in-Err-into_log.rows) (g.E.Disk.faults c.close-in-Err-into_log.result)
    (ok_no_err {E = LoadError} c.in-Ok.kept DiskFault) (damage_no_fault Rows c.in-Err-into_log.at)
    (ap g.D.Disk.faults c.in-Err-into_log.ensures.device) (ap g.E.Disk.faults c.close-in-Err-into_log.ensures) c.in-Ok.ensures.reads.faults

pub returns-in-Err-into_log-2-clause-faults : goal.returns-in-Err-into_log-2-clause-faults
returns-in-Err-into_log-2-clause-faults g c =
    counts_none (IsErrOf {E = LoadError} (Ok c.in-Ok.kept) DiskFault) (Damaged Index c.in-Err-into_log-2.at ≡ DiskFault)
    (g.D.Disk.faults (records_device c.args.rows)) (g.D.Disk.faults (records_device c.load.new.rows))
    (g.E.Disk.faults (records_device c.args.entries)) (g.E.Disk.faults (records_device c.load.new.entries))
    (g.D.Disk.faults c.close-in-Err-into_log-2.result) (g.E.Disk.faults c.in-Err-into_log-2.index)
    (ok_no_err {E = LoadError} c.in-Ok.kept DiskFault) (damage_no_fault Index c.in-Err-into_log-2.at)
    (ap g.D.Disk.faults (c.close-in-Err-into_log-2.ensures ∙ c.in-Ok-into_log.ensures.device)) (ap g.E.Disk.faults c.in-Err-into_log-2.ensures.device) c.in-Ok.ensures.reads.faults
