use Rattle.std.proofs.Common.{not, sym, ap, ◌∙◌, arith}
use Rattle.std.specs.Vec.{vec_capacity}
use Rattle.std.proofs.lemmas.List.Filters.{FiltersInPlace-more_no, FiltersInPlace-more_set}
use Rattle.fts_ids.specs.Ids.{has}
use Rattle.fts_ids.proofs.Passing.{tells_here, tells_on}
use Rattle.fts_lists.proofs.Passing.{same_at}
use Rattle.fts_lists.proofs.sorted.take_out.Goals as goal
use Rattle.fts_lists.proofs.sorted.take_out.Goals.{then-not-has, else-not-has}

pub loop-at-preserved : goal.loop-at-preserved
loop-at-preserved c =
    let taken = c.args.taken.now in
    let xs = c.args.held.now.items in
    let x = c.index-id.result.now in
    let i = c.loop-at.invariant in
    let e = same_at (λ id. not (has taken id)) xs c.loop-at.held.items c.loop-at.kept c.loop-at.at x i.filters (omega arith) c.index-id.ensures in
    let is = c.has.ensures.found ∙ tells_here c.loop-at.walk taken xs c.loop-at.at x i.walks (omega arith) e in
    elim c.if-not-has.branch [
      | then-not-has w ↦ record {
        filters = rw (w.held-is, w.kept-is) (FiltersInPlace-more_set i.filters (omega (arith, i.filters.long)) (ap not (sym is ∙ w.if-not-has.true)) c.index-id.ensures);
        walks = tells_on c.loop-at.walk c.has.new.self taken xs c.loop-at.at x c.requires.held i.walks e c.has.ensures.later;
        capacity = ap (λ v. vec_capacity v) w.held-is ∙ i.capacity;
      }
      | else-not-has w ↦ record {
        filters = rw (w.held-is, w.kept-is) (FiltersInPlace-more_no i.filters (omega (arith, i.filters.long)) (ap not (sym is ∙ w.if-not-has.false)) c.index-id.ensures);
        walks = tells_on c.loop-at.walk c.has.new.self taken xs c.loop-at.at x c.requires.held i.walks e c.has.ensures.later;
        capacity = ap (λ v. vec_capacity v) w.held-is ∙ i.capacity;
      }
    ]
