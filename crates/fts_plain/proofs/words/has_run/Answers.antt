use Rattle.std.proofs.Common.{◌<◌, length, sym, arith}
use Rattle.fts_plain.specs.Words.{from_place, stand_first}
use Rattle.fts_plain.proofs.Walking.{places_on}
use Rattle.fts_plain.proofs.words.has_run.Goals as goal

pub loop-place-preserved : goal.loop-place-preserved
loop-place-preserved c =
    let all = c.args.all.now in
    let within : c.loop-place.place < length all = omega arith in
    places_on (from_place all (stand_first c.args.words.now)) (length all) c.loop-place.place within (sym c.if-stands_at.ensures) c.loop-place.invariant
