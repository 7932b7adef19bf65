use Rattle.std.proofs.Common.{◌≡◌, ℕ, List, map, ap, subst, sym, ◌∙◌, length, arith}
use Rattle.std.proofs.Math.Logic.{∥∥₁_map, ∥∥₁_elim}
use Rattle.std.specs.Coded.{le_prop}
use Rattle.fts_types.specs.declared.limits.Limits.{Limits}
use Rattle.fts_types.specs.Limits.{standard_limits}
use Rattle.fts_types.specs.Rules.{rules_of}
use Rattle.fts_types.specs.Row.{Row, row_of}
use Rattle.std.specs.Prelude.{Ok}
use Rattle.fts_commits.specs.Commit.{Rows, after_commit}
use Rattle.fts_commits.specs.Turn.{Turn, turn_between}
use Rattle.fts_rows.specs.Rows.{rows_of}
use Rattle.fts_index.specs.Births.{AreBirths, turn_of}
use Rattle.fts_index.specs.Index.{WillTurn, newest}
use Rattle.fts_engine.specs.Bounds.{AreWithin}
use Rattle.fts_engine.proofs.Accepting.{accepted_more}
use Rattle.fts_rowcodec.proofs.Bounds.{few_columns, some_columns}
use Rattle.fts_engine.specs.Fitting.{AreTableRows}
use Rattle.fts_engine.proofs.Fitting.{births_fit}
use Rattle.fts_index.proofs.Births.{births_lower}
use Rattle.fts_engine.proofs.Indexing.{last_used, same_right}
use Rattle.fts_engine.proofs.kept.Kept.plan.Goals as goal

pub plan_commit-requires-clause-births : goal.plan_commit-requires-clause-births
plan_commit-requires-clause-births c =
    let kept = c.args.self.now in
    let held = c.plan.new.self in
    let planned = c.in-Ok.ensures.planned in
    let births : AreBirths (rows_of held).largest c.in-Ok.plan.largest c.in-Ok.plan.births =
    births_fit (length kept.settings.columns) kept.rows.limits c.args.changes.now (rows_of kept.rows) planned.0 held c.in-Ok.plan
    (some_columns kept.settings kept.right) (few_columns kept.settings kept.right) c.requires kept.within kept.fit planned.1 c.in-Ok.ensures.rows planned.2 in
    let last = ∥∥₁_elim kept.indexed le_prop (last_used kept.settings (rows_of kept.rows) kept.index) in
    subst (λ (rows : List Row). AreBirths (newest kept.index) c.largest.result rows) (sym c.births-births.ensures.births)
    (subst (λ (largest : ℕ). AreBirths (newest kept.index) largest c.in-Ok.plan.births) (sym c.largest.ensures)
    (births_lower (newest kept.index) (rows_of held).largest c.in-Ok.plan.largest c.in-Ok.plan.births
    (omega (arith, last, ap (λ (rows : Rows). rows.largest) c.in-Ok.ensures.rows)) births))

pub plan_commit-requires-clause-ascending : goal.plan_commit-requires-clause-ascending
plan_commit-requires-clause-ascending c = c.deaths.ensures.ascend c.plan.new.self c.in-Ok.ensures.planned.0 c.in-Ok.ensures.planned.2

pub invariant_of-self-2 : goal.invariant_of-self-2
invariant_of-self-2 c =
    let kept = c.args.self.now in
    record {
      right = kept.right;
      within = subst (λ (limits : Limits). AreWithin standard_limits limits) (sym c.in-Ok.ensures.limits) kept.within;
      fit = subst (λ (rows : Rows). AreTableRows kept.settings rows) (sym c.in-Ok.ensures.rows) kept.fit;
      indexed = ∥∥₁_map kept.indexed (λ has. record {
        commits = has.commits;
        state = has.state;
        is = same_right kept.settings (rows_of kept.rows) (rows_of c.plan.new.self) kept.index c.plan_commit.new.self c.in-Ok.ensures.rows c.plan_commit.ensures.stays has.commits has.state has.is;
      });
    }

pub returns-in-Ok-plan_commit-clause-planned : goal.returns-in-Ok-plan_commit-clause-planned
returns-in-Ok-plan_commit-clause-planned c =
    let kept = c.args.self.now in
    let held = c.plan.new.self in
    let planned = c.in-Ok.ensures.planned in
    let after = planned.0 in
    let turn : turn_of (map row_of c.births-births.result.now) c.deaths.result.now c.largest.result ≡ turn_between (rows_of held) after =
    ap (λ (births : List Row). turn_of births c.deaths.result.now c.largest.result) (c.births-births.ensures.born held after planned.2)
    ∙ ap (λ (deaths : List ℕ). turn_of (turn_between (rows_of held) after).births deaths c.largest.result) (c.deaths.ensures.died held after planned.2)
    ∙ ap (λ (largest : ℕ). turn_of (turn_between (rows_of held) after).births (turn_between (rows_of held) after).deaths largest)
    (c.largest.ensures ∙ ap (λ (turn : Turn). turn.largest) planned.2.turn) in (
      after,
      planned.1,
      record {
        made = c.requires;
        accepted = subst (λ (rows : Rows). after_commit standard_limits c.args.changes.now rows ≡ Ok after) (sym c.in-Ok.ensures.rows)
            (accepted_more kept.rows.limits standard_limits c.args.changes.now (rows_of kept.rows) after kept.within planned.1);
        plan = planned.2;
        turn = subst (λ (turn : Turn). WillTurn (rules_of kept.settings) turn c.plan_commit.new.self c.in-Ok-plan_commit.words) turn c.in-Ok-plan_commit.ensures.planned;
        births = births_fit (length kept.settings.columns) kept.rows.limits c.args.changes.now (rows_of kept.rows) after held c.in-Ok.plan
            (some_columns kept.settings kept.right) (few_columns kept.settings kept.right) c.requires kept.within kept.fit planned.1 c.in-Ok.ensures.rows planned.2;
      },
    )

pub returns-in-Ok-plan_commit-clause-index : goal.returns-in-Ok-plan_commit-clause-index
returns-in-Ok-plan_commit-clause-index c =
    let kept = c.args.self.now in
    same_right kept.settings (rows_of kept.rows) (rows_of c.plan.new.self) kept.index c.plan_commit.new.self c.in-Ok.ensures.rows c.plan_commit.ensures.stays
