use Rattle.std.proofs.Common.{◌+◌, sym, arith}
use Rattle.fts_words.proofs.WordLemmas.{word_at_past}
use Rattle.fts_token.proofs.Joining.{bounded, copied_words, copied_apostrophes}
use Rattle.fts_token.proofs.marks.bounds_at.Goals as goal

pub returns-then-text-at-lt-LANES : goal.returns-then-text-at-lt-LANES
returns-then-text-at-lt-LANES c =
    let text = c.args.text.now in
    let at = c.args.at in
    let copy = c.padded-last.result in
    bounded text at _ _ _ _ c.args.inside _ c.requires.inside (sym (word_at_past text (at + 64) (omega arith)))
    (copied_words text copy at _ c.padded-last.ensures.bytes c.word_marks-words.ensures) (copied_apostrophes text copy at _ c.padded-last.ensures.bytes c.apostrophe_marks-apostrophes.ensures)
    c.joined.ensures c.changes.ensures

pub returns : goal.returns
returns c =
    bounded c.args.text.now c.args.at _ _ _ _ c.args.inside _ c.requires.inside c.has_word_byte-behind.ensures c.word_marks-words-2.ensures c.apostrophe_marks-apostrophes-2.ensures c.joined-2.ensures c.changes-2.ensures
