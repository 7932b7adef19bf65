use Rattle.std.proofs.Common.{◌≡◌, ℕ, List, ◌∙◌, inr, sym, ap, subst}
use Rattle.fts_disk.specs.Device.{Files}
use Rattle.fts_log.specs.Record.{IsBrokenBehind}
use Rattle.fts_log.specs.Records.{records_device, records_magic}
use Rattle.fts_log.proofs.opening.open_log.Goals as goal

pub returns-in-Ok-into_log-clause-opened : goal.returns-in-Ok-into_log-clause-opened
returns-in-Ok-into_log-clause-opened g c told =
    let is = c.in-Ok.ensures.read told in
    (is.0, c.in-Ok-into_log.ensures.whole told is.0 is.1, c.in-Ok-into_log.ensures.count.1 ∙ is.2)

pub returns-in-Err-into_log-clause-damaged : goal.returns-in-Err-into_log-clause-damaged
returns-in-Err-into_log-clause-damaged g c at e told =
    let is = c.in-Ok.ensures.read told in
    let broken = c.in-Err-into_log.ensures.broken told is.0 is.1 in
    let file : g.D.Disk.seen (records_device c.in-Ok.records) 0 ≡ g.D.Disk.seen c.args.device 0 = ap (λ (files : Files). files 0) (c.in-Ok.ensures.looks told).seen in
    let place : c.in-Err-into_log.at ≡ at = (let same = e in cc) in
    inr (
      is.0,
      subst (λ (at : ℕ). IsBrokenBehind c.args.magic is.0 at (g.D.Disk.seen c.args.device 0)) place
          (subst (λ (file : List ℕ). IsBrokenBehind c.args.magic is.0 c.in-Err-into_log.at file) file
          (subst (λ (magic : List ℕ). IsBrokenBehind magic is.0 c.in-Err-into_log.at (g.D.Disk.seen (records_device c.in-Ok.records) 0)) c.in-Ok.ensures.magic
          (subst (λ (at : ℕ). IsBrokenBehind (records_magic c.in-Ok.records) is.0 at (g.D.Disk.seen (records_device c.in-Ok.records) 0)) (sym c.in-Err-into_log.at-is) broken))),
    )
