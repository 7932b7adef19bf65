use Rattle.std.proofs.Common.{◌+◌, sym, ap, ◌∙◌, arith}
use Rattle.std.specs.Prelude.{Err}
use Rattle.fts_log.proofs.Reading.{as_many}
use Rattle.fts_engine.specs.Restoring.{restoring_settings, restoring_rows, restoring_commits}
use Rattle.fts_engine.specs.declared.error.Device.TheVariants.{Rows}
use Rattle.fts_engine.proofs.Causes.{of_damage}
use Rattle.fts_engine.proofs.Loading.{within_all}
use Rattle.fts_engine.proofs.Covering.{all_sound}
use Rattle.fts_engine.proofs.load.held_back.Goals as goal

pub returns-in-Ok-clause-index : goal.returns-in-Ok-clause-index
returns-in-Ok-clause-index g c place e = (
  (let same = e in cc),
  λ told all read j holds was.
      let r = c.args.restoring.now in
      let still = c.in-Ok.ensures.covered told all read j holds was in
      let most = within_all all (restoring_commits r + 1) (restoring_settings r) (restoring_rows r) was.of_rows in
      let many = as_many all c.args.rows.now holds in
      all_sound all read j c.cover_commits.new.restoring still.is
      (let there = c.in-Ok.ensures.commits (omega (arith, most, many, c.count-last.ensures)) in omega (arith, there, many, c.count-last.ensures, c.requires)),
)

pub returns-in-Err-clause-rows : goal.returns-in-Err-clause-rows
returns-in-Err-clause-rows g c place e =
    c.in-Err.ensures.damaged place (ap Err (of_damage Rows Rows c.in-Err.error place (sym c.on.ensures ∙ e)).1)
