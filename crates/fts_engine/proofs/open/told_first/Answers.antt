use Rattle.std.proofs.Common.{ℕ, List, inr, ap, subst, ◌∙◌}
use Rattle.fts_log.specs.Record.{IsBrokenBehind}
use Rattle.fts_log.specs.Records.{records_device}
use Rattle.fts_steps.specs.State.{rows_magic}
use Rattle.fts_engine.specs.declared.error.Device.TheVariants.{Rows}
use Rattle.fts_engine.specs.declared.error.LoadError.TheVariants.{Damaged}
use Rattle.fts_engine.proofs.Causes.{same_damage}
use Rattle.fts_engine.proofs.open.told_first.Goals as goal

pub returns-in-Err-clause-damaged_rows : goal.returns-in-Err-clause-damaged_rows
returns-in-Err-clause-damaged_rows g c at e =
    let index = c.in-Damaged in
    let same = same_damage Rows Rows c.in-Err.at at e in
    let bytes = g.D.Disk.seen (records_device c.args.rows) 0 in
    inr (
      (index.at, index.is ∙ ap (λ device. Damaged device index.at) c.in-Index.is),
      λ told all holds. subst (λ (place : ℕ). IsBrokenBehind rows_magic all place bytes) same.1
          (subst (λ (magic : List ℕ). IsBrokenBehind magic all c.in-Err.at bytes) c.requires.magic (c.in-Err.ensures.broken told all holds)),
    )
