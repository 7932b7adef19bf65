use Rattle.std.proofs.Common.{sym, subst, drop, arith}
use Rattle.fts_ids.specs.Ids.{PassesBelow}
use Rattle.fts_ids.proofs.Passing.{passes_more, passes_found_in, passes_missed_in}
use Rattle.fts_ids.proofs.walk.behind.Goals as goal
use Rattle.fts_ids.proofs.walk.behind.Goals.{in-Ok, in-Err}

pub returns : goal.returns
returns c =
    let rest = c.near-step.result.0.now in
    let close = c.split_at.result.0.now in
    let place = c.match-binary_search.place in
    let id = c.args.id in
    let m = c.min.result in
    subst (λ ys. PassesBelow id c.args.ids.now ys) (sym c.split_at-2.ensures.back)
    (passes_more id c.args.ids.now rest (drop place rest) c.near-step.ensures
    (elim c.match-binary_search.branch [
      | in-Ok w ↦ passes_found_in rest close m id w.in-Ok.place place c.binary_search.result c.near-step.ensures.ascend (omega (arith, c.min.ensures)) c.split_at.ensures.front c.binary_search.ensures.position w.in-Ok.is w.place-is
      | in-Err w ↦ passes_missed_in rest close m id w.in-Err.place place c.binary_search.result c.near-step.ensures.ascend (omega (arith, c.min.ensures)) c.split_at.ensures.front c.binary_search.ensures.position w.in-Err.is w.place-is
    ]))
