use Rattle.std.proofs.Common.{◌≡◌, ℕ, List, ◌≤◌, ap, ◌∙◌, drop, ◌++◌, ◌∷◌, length, refl, subst, append_assoc, length-append, arith}
use Rattle.std.specs.List.{flat_map}
use Rattle.std.specs.Int.{w32, to_be_bytes}
use Rattle.fts_codec.specs.Writing.{Puts}
use Rattle.fts_codec.proofs.Puts.{puts_both}
use Rattle.fts_ixcodec.specs.Payload.{word_payload, list_payload}
use Rattle.fts_ixcodec.proofs.Walks.{lists_count}
use Rattle.fts_ixcodec.proofs.encoding.encode_worked_into.Goals as goal

pub overflow_cast-len : goal.overflow_cast-len
overflow_cast-len c =
    let word = word_payload c.args.word.now in
    let count = to_be_bytes w32 (length c.args.nodes) in
    let lists = flat_map list_payload c.args.nodes in
    omega (arith, c.requires.fits.short, lists_count c.args.nodes, c.len.ensures, length-append word (count ++ lists), length-append count lists)

pub returns : goal.returns
returns c =
    let old = c.args.buf.now in
    let word = word_payload c.args.word.now in
    let count = to_be_bytes w32 (length c.args.nodes) in
    let lists = flat_map list_payload c.args.nodes in
    let head = 3 ∷ (word ++ count) in
    let first = subst (λ (n : ℕ). Puts (3 ∷ (word ++ to_be_bytes w32 n)) old c.put_name-at.new.buf c.put_name-at.result) c.len.ensures c.put_name-at.ensures in
    let room : length head ≤ length old = omega (arith, c.requires.room, length-append word count, length-append word (count ++ lists), length-append count lists) in
    let both = puts_both head old c.put_name-at.new.buf c.put_name-at.result room first lists c.put_lists.new.buf _ c.put_lists.result c.put_lists.ensures refl in
    let same : head ++ lists ≡ 3 ∷ (word ++ (count ++ lists)) = ap (λ (text : List ℕ). 3 ∷ text) (append_assoc word count lists) in
    (both.0 ∙ ap (λ (text : List ℕ). text ++ drop (length text) old) same, both.1 ∙ ap length same)
