use Rattle.std.proofs.Common.{[], refl, arith}
use Rattle.fts_rowcodec.specs.Payload.{column_payload}
use Rattle.fts_codec.proofs.Puts.{next_room, next_put}
use Rattle.fts_rowcodec.proofs.writing.put_columns.Goals as goal

pub put_column-at-requires-clause-room : goal.put_column-at-requires-clause-room
put_column-at-requires-clause-room c =
    rw c.text.ensures (next_room column_payload c.args.names.now [] c.args.buf.now c.loop-place.buf c.loop-place.place c.loop-place.at [] (omega arith) c.requires.room c.loop-place.invariant)

pub loop-place-preserved : goal.loop-place-preserved
loop-place-preserved c =
    next_put column_payload c.args.names.now [] c.args.buf.now c.loop-place.buf c.loop-place.place c.loop-place.at [] (omega arith) c.requires.room c.loop-place.invariant
    c.put_column-at.new.buf _ c.put_column-at.result (rw (← c.text.ensures) c.put_column-at.ensures) refl
