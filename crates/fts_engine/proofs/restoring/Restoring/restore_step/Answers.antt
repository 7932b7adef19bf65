use Rattle.std.proofs.Common.{take, refl}
use Rattle.std.proofs.Math.Logic.{∥∥₁_map}
use Rattle.fts_types.specs.Rules.{rules_of}
use Rattle.fts_commits.specs.Commit.{no_rows}
use Rattle.fts_commits.specs.Turn.{turns_from}
use Rattle.fts_rows.specs.Rows.{rows_of}
use Rattle.fts_engine.proofs.Replaying.{one_stepped, still_covered, still_stepped}
use Rattle.fts_engine.proofs.restoring.Restoring.restore_step.Goals as goal

pub invariant_of-self : goal.invariant_of-self
invariant_of-self c =
    let r = c.args.self.now in
    record {
      right = r.right;
      standard = r.standard;
      fit = r.fit;
      noted = ∥∥₁_map r.noted (still_stepped r.settings (rows_of r.rows) r.index c.restore_step.new.self r.covered r.commits c.args.step.now
          c.restore_step.result c.restore_step.ensures.restored c.restore_step.ensures.stays);
    }

pub returns-in-Ok-clause-stepped : goal.returns-in-Ok-clause-stepped
returns-in-Ok-clause-stepped c commits s is =
    let r = c.args.self.now in
    let made = c.in-Ok.ensures.restored (rules_of r.settings) (take s.flushed (turns_from no_rows commits)) s is.restores.stands in
    (made.0, one_stepped r.settings (rows_of r.rows) r.index r.covered r.commits commits s is c.args.step.now c.restore_step.new.self made.0 made.1)

pub returns-in-Err-clause-stays : goal.returns-in-Err-clause-stays
returns-in-Err-clause-stays c bad commits s is =
    let r = c.args.self.now in
    still_covered r.settings (rows_of r.rows) (rows_of r.rows) r.index c.restore_step.new.self r.covered r.covered r.commits commits s refl (c.in-Err.ensures.stays refl)
    (λ turns covers. covers) is

pub returns-in-Err-clause-bad : goal.returns-in-Err-clause-bad
returns-in-Err-clause-bad c bad commits s is =
    let r = c.args.self.now in
    c.in-Err.ensures.bad bad (rules_of r.settings) (take s.flushed (turns_from no_rows commits)) s is.restores.stands
