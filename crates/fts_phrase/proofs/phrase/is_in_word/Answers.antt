use Rattle.std.proofs.Common.{sym, ap, ◌∙◌}
use Rattle.fts_words.specs.Byte.{word_at}
use Rattle.fts_words.proofs.WordLemmas.{in_word_by_byte}
use Rattle.fts_phrase.proofs.Inside.{no_mark, no_left, by_right}
use Rattle.fts_phrase.proofs.phrase.is_in_word.Goals as goal

pub returns-then-has_word_byte : goal.returns-then-has_word_byte
returns-then-has_word_byte c =
    sym (in_word_by_byte c.args.text.now c.args.place (sym c.has_word_byte.ensures ∙ c.if-has_word_byte.true))

pub returns-then-text-place-ne39 : goal.returns-then-text-place-ne39
returns-then-text-place-ne39 c =
    no_mark c.args.text.now c.args.place (sym c.has_word_byte.ensures ∙ c.if-has_word_byte.false) c.if-text-place-ne39.true

pub returns-then-not-has_word_byte : goal.returns-then-not-has_word_byte
returns-then-not-has_word_byte c =
    no_left c.args.text.now c.args.place (sym c.has_word_byte.ensures ∙ c.if-has_word_byte.false)
    (ap (word_at c.args.text.now) (sym c.saturating_sub.ensures) ∙ sym c.has_word_byte-2.ensures ∙ c.if-not-has_word_byte.true)

pub returns : goal.returns
returns c =
    c.has_word_byte-3.ensures
    ∙ by_right c.args.text.now c.args.place (sym c.has_word_byte.ensures ∙ c.if-has_word_byte.false) c.if-text-place-ne39.false
    (ap (word_at c.args.text.now) (sym c.saturating_sub.ensures) ∙ sym c.has_word_byte-2.ensures ∙ c.if-not-has_word_byte.false)
