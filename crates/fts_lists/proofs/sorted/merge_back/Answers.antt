use Rattle.std.proofs.Common.{refl, take, arith}
use Rattle.fts_lists.proofs.Merging.{merged, at_places}
use Rattle.fts_lists.proofs.sorted.merge_back.Goals as goal

pub returns-clause-merged : goal.returns-clause-merged
returns-clause-merged c =
    let old = take c.args.count c.args.held.now in
    let ids = c.args.ids.now in
    let at = c.loop-at.at in
    merged old ids c.loop-at.held at.kept at.end c.requires.held
    (at_places old ids c.loop-at.held at.kept at.left at.end at.kept 0 at.end c.loop-at.invariant refl (omega arith) refl)
