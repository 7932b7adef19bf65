use Rattle.std.proofs.Common.{[], ◌∷◌, ◌++◌, ◌+◌, refl, arith}
use Rattle.std.specs.Int.{w32, to_be_bytes}
use Rattle.fts_codec.proofs.Puts.{puts_both}
use Rattle.fts_ixcodec.specs.Payload.{word_payload}
use Rattle.fts_ixcodec.proofs.encoding.put_name.Goals as goal

pub returns : goal.returns
returns c =
    let old = c.args.buf.now in
    let word = word_payload c.args.word.now in
    let count = to_be_bytes w32 c.args.count in
    let first = puts_both (3 ∷ []) old c.put_u8-at.new.buf c.put_u8-at.result (omega (arith, c.requires.room)) c.put_u8-at.ensures word c.put_word-at.new.buf _ c.put_word-at.result c.put_word-at.ensures refl in
    puts_both ((3 ∷ []) ++ word) old _ (c.put_u8-at.result + c.put_word-at.result) (omega (arith, c.requires.room)) first count c.put_u32.new.buf _ c.put_u32.result c.put_u32.ensures refl
