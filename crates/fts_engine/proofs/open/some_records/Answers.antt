use Rattle.std.proofs.Common.{◌≡◌, ℕ, List, IsTrue, ap, sym, subst, ◌∙◌, arith}
use Rattle.fts_log.specs.Record.{IsLog, IsBrokenBehind}
use Rattle.fts_log.specs.Log.{device_of}
use Rattle.fts_log.specs.Records.{records_device}
use Rattle.fts_log.proofs.Reading.{as_many}
use Rattle.fts_steps.specs.State.{rows_magic, IsCreated}
use Rattle.fts_steps.specs.Fault.{IsFaultAt}
use Rattle.fts_engine.specs.Opening.{IsDamaged, IsNoRows}
use Rattle.fts_engine.proofs.Gates.{closed_not_created, none_torn, broken_no_rows}
use Rattle.fts_engine.proofs.open.some_records.Goals as goal

pub tell_damage-requires : goal.tell_damage-requires
tell_damage-requires g c =
    let records = c.args.records in
    let file = g.D.Disk.seen (records_device records) 0 in
    let broken = λ (told : IsTrue g.D.Disk.tells).
    (let all = (c.requires.ready told).0 in
    subst (λ (magic : List ℕ). IsBrokenBehind magic all c.in-Err.at file) c.requires.magic (c.in-Err.ensures.broken told all (c.requires.ready told).1)) in
    let same : g.D.Disk.seen c.in-Err.device 0 ≡ file = ap (λ device. g.D.Disk.seen device 0) c.in-Err.ensures.device in
    record {
      fault = λ told. subst (λ (file : List ℕ). IsFaultAt c.in-Err.at file) (sym same)
          (none_torn (c.requires.ready told).0 c.in-Err.at file (omega (arith, as_many (c.requires.ready told).0 records (c.requires.ready told).1, c.count.ensures, c.if-count-gt0.false)) (broken told));
      none = λ told. subst (λ (file : List ℕ). IsNoRows file) (sym same) (broken_no_rows (c.requires.ready told).0 c.in-Err.at file (broken told));
    }

pub returns-in-Ok-clause-not_created : goal.returns-in-Ok-clause-not_created
returns-in-Ok-clause-not_created g c e told created =
    let records = c.args.records in
    let all = (c.requires.ready told).0 in
    let holds = (c.requires.ready told).1 in
    let stands = c.in-Ok.ensures.whole told all holds in
    let file = g.D.Disk.seen (device_of c.in-Ok.log) 0 in
    let log : IsLog rows_magic all file = subst (λ (magic : List ℕ). IsLog magic all file) (c.in-Ok.ensures.kept.0 ∙ c.requires.magic) stands.is_log in
    let same : file ≡ g.D.Disk.seen (records_device records) 0 = ap (λ device. g.D.Disk.seen device 0) c.in-Ok.ensures.device in
    closed_not_created all file (omega (arith, as_many all records holds, c.count.ensures, c.if-count-gt0.false)) log (subst (λ (file : List ℕ). IsCreated file) (sym same) created)

pub returns-in-Err-clause-damaged : goal.returns-in-Err-clause-damaged
returns-in-Err-clause-damaged g c at e told =
    subst (λ device. IsDamaged at (g.D.Disk.seen device 0)) c.in-Err.ensures.device (c.tell_damage.ensures.damaged at e told)
