use Rattle.std.proofs.Common.{None, arith}
use Rattle.fts_rowcodec.specs.Payload.{new_payload}
use Rattle.fts_codec.proofs.Puts.{pieces_within}
use Rattle.fts_rowcodec.proofs.measure.new_texts_size.Goals as goal

pub overflow_add-size : goal.overflow_add-size
overflow_add-size c =
    let within = pieces_within new_payload c.args.texts.now c.loop-place.place None (omega arith) in
    omega (arith, within, c.requires, c.loop-place.invariant, c.new_text_size-size.ensures)
