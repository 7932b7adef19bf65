use Rattle.std.proofs.Common.{◌≡◌, ◌+◌, ◌∷◌, [], List, sym, subst, drop, drop-cons, ap, refl, ◌∙◌, arith}
use Rattle.fts_commits.specs.declared.change.Change.{Change}
use Rattle.fts_commits.specs.Commit.{Rows, after_changes}
use Rattle.fts_commits.specs.Turn.{Turn, rows_by}
use Rattle.fts_rows.specs.Plan.{Fits}
use Rattle.fts_rows.proofs.Adding.{fits-none, leads-none}
use Rattle.fts_rows.proofs.Drafting.{taken}
use Rattle.fts_rows.proofs.Turning.{turned}
use Rattle.fts_rows.proofs.rows.Rows.draft.Goals as goal

pub loop-change-init : goal.loop-change-init
loop-change-init c =
    let rows = c.args.self.now.rows in
    let is = c.new-draft.ensures ∙ ap (λ (r : Rows). let t : Turn = record { births = []; deaths = []; largest = r.largest } in t) c.behind.ensures.rows in
    record {
      counted = refl;
      whole = ap (after_changes c.args.self.now.limits.ids 1 c.args.changes.now) (sym (ap (rows_by rows) is ∙ leads-none rows));
      fits = subst (λ (t : Turn). Fits rows t 0) (sym is) (fits-none rows c.behind.ensures.keys);
    }

pub loop-change-preserved : goal.loop-change-preserved
loop-change-preserved c =
    let changes = c.args.changes.now in
    let rows = c.args.self.now.rows in
    let limit = c.args.self.now.limits.ids in
    let number = c.loop-change.number in
    let place = c.loop-change.change-index in
    let change = c.change-item.result in
    let before = rows_by rows c.loop-change.draft in
    let next : drop place changes ≡ change ∷ drop (place + 1) changes = grind (arith, drop-cons changes place change, c.change-item.is, c.loop-change-test.true) in
    record {
      counted = omega (arith, c.loop-change.invariant.counted);
      whole = taken limit number change (drop (place + 1) changes) before (rows_by rows c.change.new.draft) (after_changes limit 1 changes rows) (c.loop-change.invariant.whole ∙ ap (λ (list : List Change). after_changes limit (number + 1) list before) next) c.in_default.ensures.ok;
      fits = c.in_default.ensures.fits place c.loop-change.invariant.fits;
    }

pub returns-clause-turn : goal.returns-clause-turn
returns-clause-turn c = λ ascend. turned c.args.self.now.rows c.loop-change.draft c.loop-change.change-index c.behind.ensures.ascend c.loop-change.invariant.fits ascend
