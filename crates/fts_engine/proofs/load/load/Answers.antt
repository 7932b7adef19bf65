use Rattle.std.proofs.Common.{◌≡◌, ℕ, List, [], take, ap, subst, sym, ◌∙◌}
use Rattle.std.specs.Prelude.{Err}
use Rattle.fts_log.specs.Records.{records_magic}
use Rattle.fts_log.proofs.Reading.{read_none}
use Rattle.fts_engine.specs.Loading.{IsWrongEntry, IsWrongAmong}
use Rattle.fts_engine.specs.Opening.{load_error_of}
use Rattle.fts_engine.specs.declared.error.Device.TheVariants.{Rows, Index}
use Rattle.fts_engine.specs.declared.error.ReadError.TheVariants.{DiskFault}
use Rattle.fts_engine.proofs.Covering.{first_restored, restored_front, sound_loaded}
use Rattle.fts_engine.proofs.Causes.{of_damage, of_fault}
use Rattle.fts_engine.proofs.OneLog.{reads_told}
use Rattle.fts_engine.proofs.BothLogs.{both_more, both_told, rows_alone}
use Rattle.fts_engine.proofs.load.load.Goals as goal

pub returns-in-Ok-load_rest-clause-loaded : goal.returns-in-Ok-load_rest-clause-loaded
returns-in-Ok-load_rest-clause-loaded g c told all holds =
    let new = c.new-restoring.ensures in
    let behind = (c.in-Ok.ensures.reads.read told).stays all holds in
    let begun = λ (read : List (List ℕ)). first_restored all read c.in-Ok.settings c.new-restoring.result (c.in-Ok.ensures.loaded told all holds) new.settings new.rows new.commits new.covers in
    let is = c.in-Ok-None.ensures.stays told all behind ([], 0, begun []) in
    let left = (c.in-Ok-None.ensures.reads.of_rows told).stays all behind in (
      sound_loaded all (take is.1 is.0) c.in-Ok-load_rest.kept
          (c.in-Ok-load_rest.ensures.loaded told all (take is.1 is.0) left (restored_front all is.0 is.1 c.restore_entries.new.restoring is.2)),
      λ told' read holds'.
          c.in-Ok-load_rest.ensures.loaded told all read left
          (c.in-Ok-None.ensures.restored (let none = c.in-Ok-None.field-0-is in cc) told told' all read behind holds' (begun read)),
    )

pub returns-in-Ok-load_rest-clause-reads : goal.returns-in-Ok-load_rest-clause-reads
returns-in-Ok-load_rest-clause-reads g c =
    let entries = c.args.entries.now in
    let first = rows_alone ⊥ c.args.rows.now c.load_settings.new.records entries (reads_told _ ⊥ _ _ (λ none. absurd none) (λ told. let no = told in cc) c.in-Ok.ensures.reads)
    (λ told. read_none entries (λ files left. g.met.E.Disk.only_now _ files told left)) in
    let then_ = both_told _ ⊥ _ _ _ _ (λ none. absurd none) (λ told. let no = told in cc) c.in-Ok-None.ensures.reads in
    both_told _ _ _ _ _ _ (λ told. let no = told in cc) (λ told. let no = told in cc)
    (both_more _ _ _ _ _ _ _ (both_more ⊥ _ _ _ _ _ _ first then_)
    (rows_alone _ c.restore_entries.new.rows c.load_rest.new.rows c.restore_entries.new.entries c.in-Ok-load_rest.ensures.reads
    (λ told. read_none c.restore_entries.new.entries (λ files left. g.met.E.Disk.only_now _ files told left))))

pub returns-in-Err-load_rest-clause-damaged_rows : goal.returns-in-Err-load_rest-clause-damaged_rows
returns-in-Err-load_rest-clause-damaged_rows g c at e told all holds =
    let new = c.new-restoring.ensures in
    let behind = (c.in-Ok.ensures.reads.read told).stays all holds in
    let begun = first_restored all [] c.in-Ok.settings c.new-restoring.result (c.in-Ok.ensures.loaded told all holds) new.settings new.rows new.commits new.covers in
    let reads = c.in-Ok-None.ensures.reads in
    let is = c.in-Ok-None.ensures.stays told all behind ([], 0, begun) in
    let damage = of_damage Rows Rows c.in-Err-load_rest.error at (sym c.on-in-Err-load_rest.ensures ∙ (let same = e in cc)) in
    subst (λ magic. IsWrongEntry magic all at) (reads.many_rows.magic ∙ c.in-Ok.ensures.reads.same.magic)
    (c.in-Err-load_rest.ensures.damaged at (ap Err damage.1) told all (take is.1 is.0) ((reads.of_rows told).stays all behind)
    (restored_front all is.0 is.1 c.restore_entries.new.restoring is.2))

pub returns-in-Err-load_rest-clause-damaged_index : goal.returns-in-Err-load_rest-clause-damaged_index
returns-in-Err-load_rest-clause-damaged_index g c at e =
    absurd (let other = (of_damage Rows Index c.in-Err-load_rest.error at (sym c.on-in-Err-load_rest.ensures ∙ (let same = e in cc))).0 in cc)

pub returns-in-Err-load_rest-clause-reads : goal.returns-in-Err-load_rest-clause-reads
returns-in-Err-load_rest-clause-reads g c =
    let entries = c.args.entries.now in
    let first = rows_alone ⊥ c.args.rows.now c.load_settings.new.records entries (reads_told _ ⊥ _ _ (λ none. absurd none) (λ told. let no = told in cc) c.in-Ok.ensures.reads)
    (λ told. read_none entries (λ files left. g.met.E.Disk.only_now _ files told left)) in
    let then_ = both_told _ ⊥ _ _ _ _ (λ none. absurd none) (λ told. let no = told in cc) c.in-Ok-None.ensures.reads in
    both_told _ _ _ _ _ _
    (λ told. ap Err (of_fault Rows c.in-Err-load_rest.error (sym c.on-in-Err-load_rest.ensures ∙ (let same = told in cc))))
    (λ told. let same : c.in-Err-load_rest.error ≡ DiskFault = (let e = told in cc) in ap Err (c.on-in-Err-load_rest.ensures ∙ ap (load_error_of Rows) same))
    (both_more _ _ _ _ _ _ _ (both_more ⊥ _ _ _ _ _ _ first then_)
    (rows_alone _ c.restore_entries.new.rows c.load_rest.new.rows c.restore_entries.new.entries c.in-Err-load_rest.ensures.reads
    (λ told. read_none c.restore_entries.new.entries (λ files left. g.met.E.Disk.only_now _ files told left))))

pub returns-in-Ok-Some-clause-damaged_rows : goal.returns-in-Ok-Some-clause-damaged_rows
returns-in-Ok-Some-clause-damaged_rows g c at e told all holds =
    let new = c.new-restoring.ensures in
    let behind = (c.in-Ok.ensures.reads.read told).stays all holds in
    let begun = first_restored all [] c.in-Ok.settings c.new-restoring.result (c.in-Ok.ensures.loaded told all holds) new.settings new.rows new.commits new.covers in
    let ensured = c.in-Ok-Some.ensures in
    let is = ensured.stays told all behind ([], 0, begun) in
    subst (λ magic. IsWrongEntry magic all at) (ensured.reads.many_rows.magic ∙ c.in-Ok.ensures.reads.same.magic)
    (c.held_back.ensures.rows at (let same = e in cc) told all is.0 is.1 ((ensured.reads.of_rows told).stays all behind) is.2)

pub returns-in-Ok-Some-clause-damaged_index : goal.returns-in-Ok-Some-clause-damaged_index
returns-in-Ok-Some-clause-damaged_index g c at e told all holds =
    let new = c.new-restoring.ensures in
    let behind = (c.in-Ok.ensures.reads.read told).stays all holds in
    let begun = λ (read : List (List ℕ)). first_restored all read c.in-Ok.settings c.new-restoring.result (c.in-Ok.ensures.loaded told all holds) new.settings new.rows new.commits new.covers in
    let ensured = c.in-Ok-Some.ensures in
    let is = ensured.stays told all behind ([], 0, begun []) in
    let damage = c.held_back.ensures.index at (let same = e in cc) in (
      damage.1 told all is.0 is.1 ((ensured.reads.of_rows told).stays all behind) is.2,
      λ told' read holds'.
          subst (λ (place : ℕ). IsWrongAmong (records_magic c.args.entries.now) all read place) (sym damage.0)
          (ensured.refused c.in-Ok-Some.at (let is = c.in-Ok-Some.at-is in cc) told told' all read behind holds' (begun read)),
    )

pub returns-in-Ok-Some-clause-reads : goal.returns-in-Ok-Some-clause-reads
returns-in-Ok-Some-clause-reads g c =
    let entries = c.args.entries.now in
    let first = rows_alone ⊥ c.args.rows.now c.load_settings.new.records entries (reads_told _ ⊥ _ _ (λ none. absurd none) (λ told. let no = told in cc) c.in-Ok.ensures.reads)
    (λ told. read_none entries (λ files left. g.met.E.Disk.only_now _ files told left)) in
    let then_ = both_told _ ⊥ _ _ _ _ (λ none. absurd none) (λ told. let no = told in cc) c.in-Ok-Some.ensures.reads in
    both_told _ _ _ _ _ _ (λ told. let same = told in cc) (λ told. let same = told in cc)
    (both_more _ _ _ _ _ _ _ (both_more ⊥ _ _ _ _ _ _ first then_)
    (rows_alone _ c.restore_entries.new.rows c.held_back.new.rows c.restore_entries.new.entries c.held_back.ensures.reads
    (λ told. read_none c.restore_entries.new.entries (λ files left. g.met.E.Disk.only_now _ files told left))))

pub returns-in-Err-restore_entries-clause-damaged_rows : goal.returns-in-Err-restore_entries-clause-damaged_rows
returns-in-Err-restore_entries-clause-damaged_rows g c at e told all holds =
    let new = c.new-restoring.ensures in
    let behind = (c.in-Ok.ensures.reads.read told).stays all holds in
    let begun = first_restored all [] c.in-Ok.settings c.new-restoring.result (c.in-Ok.ensures.loaded told all holds) new.settings new.rows new.commits new.covers in
    let damage = of_damage Rows Rows c.in-Err-restore_entries.error at (sym c.on-in-Err-restore_entries.ensures ∙ (let same = e in cc)) in
    subst (λ magic. IsWrongEntry magic all at) c.in-Ok.ensures.reads.same.magic
    (c.in-Err-restore_entries.ensures.damaged at (ap Err damage.1) told all behind ([], 0, begun))

pub returns-in-Err-restore_entries-clause-damaged_index : goal.returns-in-Err-restore_entries-clause-damaged_index
returns-in-Err-restore_entries-clause-damaged_index g c at e =
    absurd (let other = (of_damage Rows Index c.in-Err-restore_entries.error at (sym c.on-in-Err-restore_entries.ensures ∙ (let same = e in cc))).0 in cc)

pub returns-in-Err-restore_entries-clause-reads : goal.returns-in-Err-restore_entries-clause-reads
returns-in-Err-restore_entries-clause-reads g c =
    let entries = c.args.entries.now in
    let first = rows_alone ⊥ c.args.rows.now c.load_settings.new.records entries (reads_told _ ⊥ _ _ (λ none. absurd none) (λ told. let no = told in cc) c.in-Ok.ensures.reads)
    (λ told. read_none entries (λ files left. g.met.E.Disk.only_now _ files told left)) in
    both_told _ _ _ _ _ _
    (λ told. ap Err (of_fault Rows c.in-Err-restore_entries.error (sym c.on-in-Err-restore_entries.ensures ∙ (let same = told in cc))))
    (λ told. let same : c.in-Err-restore_entries.error ≡ DiskFault = (let e = told in cc) in ap Err (c.on-in-Err-restore_entries.ensures ∙ ap (load_error_of Rows) same))
    (both_more _ _ _ _ _ _ _ first c.in-Err-restore_entries.ensures.reads)
