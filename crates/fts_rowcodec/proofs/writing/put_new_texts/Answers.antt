use Rattle.std.proofs.Common.{[], None, refl, arith}
use Rattle.fts_rowcodec.specs.Payload.{new_payload}
use Rattle.fts_codec.proofs.Puts.{next_room, next_put}
use Rattle.fts_rowcodec.proofs.writing.put_new_texts.Goals as goal

pub put_new_text-at-requires-clause-room : goal.put_new_text-at-requires-clause-room
put_new_text-at-requires-clause-room c =
    next_room new_payload c.args.texts.now [] c.args.buf.now c.loop-place.buf c.loop-place.place c.loop-place.at None (omega arith) c.requires.room c.loop-place.invariant

pub loop-place-preserved : goal.loop-place-preserved
loop-place-preserved c =
    next_put new_payload c.args.texts.now [] c.args.buf.now c.loop-place.buf c.loop-place.place c.loop-place.at None (omega arith) c.requires.room c.loop-place.invariant
    c.put_new_text-at.new.buf _ c.put_new_text-at.result c.put_new_text-at.ensures refl
