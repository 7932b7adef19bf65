use Rattle.std.proofs.Common.{◌≡◌, ◌∷◌, [], ◌++◌, map, length, ap, subst, sym, ◌∙◌, arith}
use Rattle.std.proofs.Math.Logic.{∥∥₁_map}
use Rattle.std.specs.Prelude.{Ok}
use Rattle.fts_types.specs.Limits.{standard_limits}
use Rattle.fts_types.specs.declared.limits.Limits.{Limits}
use Rattle.fts_types.specs.Row.{row_of}
use Rattle.fts_commits.specs.Commit.{Rows, after_commit}
use Rattle.fts_commits.specs.Turn.{Turn}
use Rattle.fts_rows.specs.Rows.{rows_of}
use Rattle.fts_engine.specs.Fitting.{AreTableRows}
use Rattle.fts_engine.proofs.Fitting.{commit_fits}
use Rattle.fts_engine.proofs.Replaying.{replay_covers, still_covered}
use Rattle.fts_engine.proofs.restoring.Restoring.replay.Goals as goal

pub invariant_of-self-in-Err-note : goal.invariant_of-self-in-Err-note
invariant_of-self-in-Err-note c =
    let r = c.args.self.now in
    record {
      right = r.right;
      standard = c.in-Ok.ensures.limits ∙ r.standard;
      fit = subst (λ (rows : Rows). AreTableRows r.settings rows) (sym c.in-Ok.ensures.rows) r.fit;
      noted = ∥∥₁_map r.noted (λ has. record {
        commits = has.commits;
        state = has.state;
        is = still_covered r.settings (rows_of r.rows) (rows_of c.plan.new.self) r.index r.index r.covered c.note.new.self r.commits has.commits has.state c.in-Ok.ensures.rows
            (λ rules turns s stands. stands) c.in-Err-note.ensures.stays has.is;
      });
    }

pub invariant_of-self-2 : goal.invariant_of-self-2
invariant_of-self-2 c =
    let r = c.args.self.now in
    let held = c.plan.new.self in
    let planned = c.in-Ok.ensures.planned in
    let after = planned.0 in
    let accepted : after_commit standard_limits c.args.changes.now (rows_of r.rows) ≡ Ok after =
    subst (λ (limits : Limits). after_commit limits c.args.changes.now (rows_of r.rows) ≡ Ok after) r.standard planned.1 in
    record {
      right = r.right;
      standard = c.install.ensures.limits ∙ c.in-Ok.ensures.limits ∙ r.standard;
      fit = subst (λ (rows : Rows). AreTableRows r.settings rows) (sym (c.install.ensures.rows after planned.2))
          (commit_fits (length r.settings.columns) standard_limits c.args.changes.now (rows_of r.rows) after (record { rows = omega arith; ids = omega arith; log_bytes = omega arith })
          c.requires.fit r.fit accepted);
      noted = ∥∥₁_map r.noted (λ has. record {
        commits = has.commits ++ c.args.changes.now ∷ [];
        state = has.state;
        is = replay_covers r.settings (rows_of r.rows) (rows_of held) (rows_of c.install.new.self) r.index r.covered c.note.new.self r.commits c.in-Some.commits c.args.changes.now after
            (map row_of c.births.result.now) c.deaths.result.now c.largest.result
            (record { ascend = c.are_turns.ensures.ascend; rows = c.are_turns.ensures.rows; once = c.are_turns.ensures.once })
            accepted c.in-Ok.ensures.rows (c.births.ensures.born held after planned.2) (c.deaths.ensures.died held after planned.2) (c.largest.ensures ∙ ap (λ (turn : Turn). turn.largest) planned.2.turn)
            c.in-Ok-note.ensures.noted (c.install.ensures.rows after planned.2) c.in-Some.ensures.1 has.commits has.state has.is;
      });
    }

pub returns-clause-covers : goal.returns-clause-covers
returns-clause-covers c =
    let r = c.args.self.now in
    let held = c.plan.new.self in
    let planned = c.in-Ok.ensures.planned in
    let after = planned.0 in
    let accepted : after_commit standard_limits c.args.changes.now (rows_of r.rows) ≡ Ok after =
    subst (λ (limits : Limits). after_commit limits c.args.changes.now (rows_of r.rows) ≡ Ok after) r.standard planned.1 in
    replay_covers r.settings (rows_of r.rows) (rows_of held) (rows_of c.install.new.self) r.index r.covered c.note.new.self r.commits c.in-Some.commits c.args.changes.now after
    (map row_of c.births.result.now) c.deaths.result.now c.largest.result
    (record { ascend = c.are_turns.ensures.ascend; rows = c.are_turns.ensures.rows; once = c.are_turns.ensures.once })
    accepted c.in-Ok.ensures.rows (c.births.ensures.born held after planned.2) (c.deaths.ensures.died held after planned.2) (c.largest.ensures ∙ ap (λ (turn : Turn). turn.largest) planned.2.turn)
    c.in-Ok-note.ensures.noted (c.install.ensures.rows after planned.2) c.in-Some.ensures.1
