use Rattle.std.proofs.Common.{take, drop, refl, subst, sym}
use Rattle.std.proofs.Math.Logic.{∥∥₁_map}
use Rattle.fts_types.specs.Rules.{rules_of}
use Rattle.fts_commits.specs.Commit.{no_rows}
use Rattle.fts_commits.specs.Turn.{turns_from}
use Rattle.fts_rows.specs.Rows.{rows_of}
use Rattle.fts_index.specs.declared.restore.Covered.{Covered}
use Rattle.fts_index.specs.Restore.{Covers}
use Rattle.fts_engine.proofs.Replaying.{one_installed, can_whole, none_can, still_covered, still_has}
use Rattle.fts_engine.proofs.restoring.Restoring.restore.Goals as goal

pub invariant_of-self : goal.invariant_of-self
invariant_of-self c =
    let r = c.args.self.now in
    record {
      right = r.right;
      standard = r.standard;
      fit = r.fit;
      noted = ∥∥₁_map r.noted (still_has r.settings (rows_of r.rows) r.index c.restore.new.self r.covered c.restore.new.covered r.commits c.args.through c.args.synced c.args.nodes.now
          c.restore.result c.restore.ensures.restored c.restore.ensures.none c.restore.ensures.stays c.restore.ensures.covered);
    }

pub returns-in-Ok-clause-restored : goal.returns-in-Ok-clause-restored
returns-in-Ok-clause-restored c commits s is =
    let r = c.args.self.now in
    let turns = turns_from no_rows commits in
    let restored = c.in-Ok.ensures.restored (rules_of r.settings) (take s.flushed turns) (drop s.flushed turns) s is.restores in
    record {
      can = can_whole r.settings (rows_of r.rows) r.index r.covered r.commits commits s is c.args.through c.args.synced c.args.nodes.now restored.can;
      covers = one_installed r.settings (rows_of r.rows) r.index r.covered r.commits commits s is c.args.through c.args.synced c.args.nodes.now c.restore.new.self c.restore.new.covered restored c.in-Ok.ensures.none;
    }

pub returns-in-Err-clause-stays : goal.returns-in-Err-clause-stays
returns-in-Err-clause-stays c bad commits s is =
    let r = c.args.self.now in
    still_covered r.settings (rows_of r.rows) (rows_of r.rows) r.index c.restore.new.self r.covered c.restore.new.covered r.commits commits s refl (c.in-Err.ensures.stays refl)
    (λ turns covers. subst (λ (covered : Covered). Covers turns covered) (sym c.in-Err.ensures.covered) covers) is

pub returns-in-Err-clause-bad : goal.returns-in-Err-clause-bad
returns-in-Err-clause-bad c bad commits s is most =
    let r = c.args.self.now in
    let turns = turns_from no_rows commits in
    none_can r.settings (rows_of r.rows) r.index r.covered r.commits commits s is c.args.through c.args.synced c.args.nodes.now most
    (λ here can. c.in-Err.ensures.bad bad (rules_of r.settings) (take s.flushed turns) (drop s.flushed turns) s is.restores here can)
