use Rattle.std.proofs.Common.{◌≡◌, length, rules, slice_index_or, subst}
use Rattle.fts_script.specs.Script.{lines_in}
use Rattle.fts_shared.specs.Places.{HasTalked}
use Rattle.fts_shared.proofs.Laying.{pairwise}
use Rattle.fts_shared.proofs.joined.execute_each.Goals as goal

pub returns : goal.returns
returns g c =
    let P = HasTalked {rows = g.D.Disk} {index = g.E.Disk} (lines_in c.args.context.now.script.now) c.args.context.now.turn.now in
    let same : length c.for_each_mut.new.s ≡ length c.args.places.now = search rules in
    pairwise P c.args.places.now c.for_each_mut.new.s same (λ i d less.
    let at = (c.for_each_mut.ensures i d less).1 in
    subst (λ old. P old (slice_index_or c.for_each_mut.new.s i d)) at.argument_is (subst (P at.argument.now) at.left at.call))
