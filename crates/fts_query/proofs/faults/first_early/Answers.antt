use Rattle.std.proofs.Common.{◌<◌, length, arith, sym}
use Rattle.fts_query.proofs.FaultLemmas.{passed_more}
use Rattle.fts_query.proofs.faults.first_early.Goals as goal

pub loop-place-preserved : goal.loop-place-preserved
loop-place-preserved c =
    let within : c.loop-place.place < length c.args.text.now = omega arith in
    rw c.height_behind-height.ensures (passed_more c.args.query.now c.args.text.now _ _ c.loop-place.invariant within (sym c.if-is_stray.ensures) (sym c.if-closes_nothing.ensures))
