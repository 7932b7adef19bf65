use Rattle.std.proofs.Common.{◌≤◌, length, sym, ◌∙◌, arith, le-ltb}
use Rattle.fts_words.specs.Byte.{word_at}
use Rattle.fts_words.proofs.WordLemmas.{word_at_past}
use Rattle.fts_token.proofs.raw.has_word_byte.Goals as goal

pub returns-then-place-text : goal.returns-then-place-text
unfolding word_at
returns-then-place-text c = c.is_word_byte.ensures

pub returns-else-place-text : goal.returns-else-place-text
returns-else-place-text c =
    let past : length c.args.text.now ≤ c.args.place = omega arith in
    le-ltb _ _ past ∙ sym (word_at_past c.args.text.now c.args.place past)
