use Rattle.std.proofs.Common.{refl, subst}
use Rattle.std.proofs.Math.Logic.{∥∥₁_map}
use Rattle.std.proofs.lemmas.Result.{IfOk-weaker}
use Rattle.std.specs.Prelude.{IfOk, Some}
use Rattle.fts_rows.specs.Rows.{rows_of}
use Rattle.fts_engine.proofs.Indexing.{Plans, as_planned, plan_fits, same_right, still_has}
use Rattle.fts_engine.proofs.kept.Kept.plan_sync.Goals as goal

pub invariant_of-self : goal.invariant_of-self
invariant_of-self c =
    let kept = c.args.self.now in
    let rows = rows_of kept.rows in
    record {
      right = kept.right;
      within = kept.within;
      fit = kept.fit;
      indexed = ∥∥₁_map kept.indexed (still_has kept.settings rows rows kept.index c.plan_sync.new.self refl c.plan_sync.ensures.stays);
    }

pub returns-clause-planned : goal.returns-clause-planned
returns-clause-planned c =
    let kept = c.args.self.now in
    let rows = rows_of kept.rows in
    IfOk-weaker c.plan_sync.result (Plans kept.settings kept.index c.plan_sync.new.self) _
    (λ plan planned. as_planned kept.settings rows kept.index c.plan_sync.new.self plan planned) c.plan_sync.ensures.planned

pub returns-clause-room : goal.returns-clause-room
returns-clause-room c plan is =
    let kept = c.args.self.now in
    let rows = rows_of kept.rows in
    let new = c.plan_sync.new.self in
    let planned : Plans kept.settings kept.index new (Some plan) = subst (λ result. IfOk result (Plans kept.settings kept.index new)) is c.plan_sync.ensures.planned in
    record {
      fits = plan_fits kept.settings rows kept.index new plan planned kept.indexed;
      next = ∥∥₁_map kept.indexed (λ has. record {
        commits = has.commits;
        state = has.state;
        is = same_right kept.settings rows rows kept.index new refl c.plan_sync.ensures.stays has.commits has.state has.is;
        batch = as_planned kept.settings rows kept.index new (Some plan) planned has.commits has.state has.is;
      });
    }

pub returns-clause-index : goal.returns-clause-index
returns-clause-index c =
    let kept = c.args.self.now in
    let rows = rows_of kept.rows in
    same_right kept.settings rows rows kept.index c.plan_sync.new.self refl c.plan_sync.ensures.stays
