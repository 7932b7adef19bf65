use Rattle.std.proofs.Common.{[], ◌∷◌, ◌++◌, ◌+◌, refl, length-append, arith}
use Rattle.std.specs.List.{flat_map}
use Rattle.fts_rowcodec.specs.Payload.{column_payload, numbers_payload}
use Rattle.fts_codec.proofs.Puts.{puts_both}
use Rattle.fts_rowcodec.proofs.encode.encode_settings_into.Goals as goal

pub returns : goal.returns
returns c =
    let old = c.args.buf.now in
    let settings = c.args.settings.now in
    let head = 0 ∷ c.len.result ∷ [] in
    let columns = flat_map column_payload settings.columns in
    let numbers = numbers_payload settings in
    let first = puts_both head old c.put_bytes-at.new.buf c.put_bytes-at.result (omega (arith, c.requires.room)) c.put_bytes-at.ensures columns c.put_columns-at.new.buf _ c.put_columns-at.result c.put_columns-at.ensures refl in
    let both = puts_both (head ++ columns) old _ (c.put_bytes-at.result + c.put_columns-at.result) (omega (arith, c.requires.room, length-append columns numbers)) first numbers c.put_numbers.new.buf _ c.put_numbers.result c.put_numbers.ensures refl in
    rw (← c.len.ensures) both
