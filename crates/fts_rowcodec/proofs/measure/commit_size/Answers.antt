use Rattle.std.proofs.Common.{◌<◌, ◌^◌, length, arith}
use Rattle.fts_rowcodec.specs.Payload.{change_payload}
use Rattle.fts_codec.proofs.Puts.{piece_short, front_within}
use Rattle.fts_rowcodec.proofs.measure.commit_size.Goals as goal

pub change_size-size-requires : goal.change_size-size-requires
change_size-size-requires c = rw c.change-item.is (piece_short change_payload c.args.changes.now c.loop-change.change-index _ (2 ^ 32) c.loop-change-test.true (omega (arith, c.requires)))

pub overflow_add-size : goal.overflow_add-size
overflow_add-size c =
    let short : length (change_payload c.change-item.result) < 2 ^ 32 = rw c.change-item.is (piece_short change_payload c.args.changes.now c.loop-change.change-index _ (2 ^ 32) c.loop-change-test.true (omega (arith, c.requires))) in
    omega (arith, short, c.change_size-size.ensures, c.loop-change.invariant, c.requires, front_within change_payload c.args.changes.now c.loop-change.change-index)
