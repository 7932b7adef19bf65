use Rattle.std.proofs.Common.{arith, sym}
use Rattle.fts_index.proofs.Keys.{key_less, key_greater, bytes_at}
use Rattle.fts_index.proofs.keyed.compare_words.Goals as goal

pub returns-then-key-other_key : goal.returns-then-key-other_key
returns-then-key-other_key c =
    let less = c.if-key-other_key.true in
    sym (key_less c.args.word.now c.args.other.now (bytes_at c.args.word.now c.requires.bytes) (bytes_at c.args.other.now c.requires.other_bytes) (omega (arith, less, c.requires.key, c.requires.other_key)))

pub returns-then-other_key-key : goal.returns-then-other_key-key
returns-then-other_key-key c =
    let less = c.if-other_key-key.true in
    sym (key_greater c.args.word.now c.args.other.now (bytes_at c.args.word.now c.requires.bytes) (bytes_at c.args.other.now c.requires.other_bytes) (omega (arith, less, c.requires.key, c.requires.other_key)))
