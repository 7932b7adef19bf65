use Rattle.std.proofs.Common.{◌<◌, true, length, get_or, arith, ◌∙◌}
use Rattle.std.proofs.lemmas.List.{length-set}
use Rattle.fts_ids.proofs.Marking.{has_at, marks_one}
use Rattle.fts_ids.proofs.marks.mark.Goals as goal

pub bounds-marks-id : goal.bounds-marks-id
bounds-marks-id c =
    let ids = c.args.ids.now in
    let within = c.requires (get_or ids c.loop-id.id-index 0) (has_at ids c.loop-id.id-index c.loop-id-test.true) in
    omega (arith, within, c.loop-id.invariant.size)

pub loop-id-preserved : goal.loop-id-preserved
loop-id-preserved c =
    let ids = c.args.ids.now in
    let k = c.loop-id.id-index in
    let marks = c.loop-id.marks in
    let within = c.requires (get_or ids k 0) (has_at ids k c.loop-id-test.true) in
    let inside : get_or ids k 0 < length marks = omega (arith, within, c.loop-id.invariant.size) in
    record {
      size = length-set marks (get_or ids k 0) true ∙ c.loop-id.invariant.size;
      each = λ id. marks_one c.args.marks.now marks ids k id c.loop-id-test.true inside (c.loop-id.invariant.each id);
    }
