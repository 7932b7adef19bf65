use Rattle.std.proofs.Common.{◌++◌, length, refl, subst, length-append, arith}
use Rattle.std.specs.Int.{w32, to_be_bytes}
use Rattle.fts_codec.specs.Writing.{Puts}
use Rattle.fts_codec.proofs.Puts.{left_of, puts_both}
use Rattle.fts_ixcodec.specs.Payload.{word_payload, list_payload}
use Rattle.fts_ixcodec.proofs.writing.put_node.Goals as goal

pub returns : goal.returns
returns c =
    let old = c.args.buf.now in
    let word = word_payload c.args.word.now in
    let docs = c.args.node.now in
    let spelled = c.bytes.ensures.spelled in
    let put = subst (λ xs. Puts (to_be_bytes w32 (length xs) ++ xs) (left_of c.put_word-at.new.buf c.put_word-at.result) c.put_list.new.buf c.put_list.result) spelled c.put_list.ensures in
    puts_both word old c.put_word-at.new.buf c.put_word-at.result (omega (arith, c.requires.room, length-append word (list_payload docs))) c.put_word-at.ensures (list_payload docs) c.put_list.new.buf _ c.put_list.result put refl
