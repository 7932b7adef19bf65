use Rattle.std.proofs.Common.{refl, subst}
use Rattle.std.proofs.Math.Logic.{∥∥₁_map}
use Rattle.std.proofs.lemmas.Result.{IfOk-weaker}
use Rattle.std.specs.Prelude.{IfOk, List, Option, Some}
use Rattle.fts_types.specs.Rules.{rules_of}
use Rattle.fts_words.specs.Indexed.{Rules}
use Rattle.fts_commits.specs.Commit.{no_rows}
use Rattle.fts_commits.specs.Turn.{Turn, turns_from}
use Rattle.fts_rows.specs.Rows.{rows_of}
use Rattle.fts_entries.specs.Entry.{IndexState}
use Rattle.fts_index.specs.declared.passing.PassPlan.{PassPlan}
use Rattle.fts_index.specs.declared.index.Index.{Index}
use Rattle.fts_index.specs.Stands.{StandsFor}
use Rattle.fts_index.specs.Passing.{PlansStep, FitsPlanned}
use Rattle.fts_engine.proofs.Indexing.{same_right, still_has}
use Rattle.fts_engine.proofs.kept.Kept.plan_optimize.Goals as goal

-- what a plan of a step says of an index, for each state for which that stands
abbrev Plans : Index → Option PassPlan → Type 0
Plans old plan = (rules : Rules) (turns : List Turn) (s : IndexState) → StandsFor rules turns s old → PlansStep s plan

pub invariant_of-self : goal.invariant_of-self
invariant_of-self c =
    let kept = c.args.self.now in
    let rows = rows_of kept.rows in
    record {
      right = kept.right;
      within = kept.within;
      fit = kept.fit;
      indexed = ∥∥₁_map kept.indexed (still_has kept.settings rows rows kept.index c.plan_optimize.new.self refl c.plan_optimize.ensures.stays);
    }

pub returns-clause-planned : goal.returns-clause-planned
returns-clause-planned c =
    let kept = c.args.self.now in
    IfOk-weaker c.plan_optimize.result (Plans kept.index) _
    (λ plan planned commits s is. planned (rules_of kept.settings) (turns_from no_rows commits) s is.stands) c.plan_optimize.ensures.planned

pub returns-clause-room : goal.returns-clause-room
returns-clause-room c plan is =
    let kept = c.args.self.now in
    let rows = rows_of kept.rows in
    let new = c.plan_optimize.new.self in
    let planned : Plans kept.index (Some plan) = subst (λ result. IfOk result (Plans kept.index)) is c.plan_optimize.ensures.planned in
    let fits : FitsPlanned new (Some plan) = subst (λ result. IfOk result (FitsPlanned new)) is c.plan_optimize.ensures.fits in
    record {
      fits = fits;
      next = ∥∥₁_map kept.indexed (λ has. record {
        commits = has.commits;
        state = has.state;
        is = same_right kept.settings rows rows kept.index new refl c.plan_optimize.ensures.stays has.commits has.state has.is;
        next = planned (rules_of kept.settings) (turns_from no_rows has.commits) has.state has.is.stands;
      });
    }

pub returns-clause-index : goal.returns-clause-index
returns-clause-index c =
    let kept = c.args.self.now in
    let rows = rows_of kept.rows in
    same_right kept.settings rows rows kept.index c.plan_optimize.new.self refl c.plan_optimize.ensures.stays
