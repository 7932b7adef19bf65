use Rattle.std.proofs.Common.{ℕ, ◌≡◌, ◌+◌, ◌-◌, length, slice_index, ap, ◌∙◌, arith}
use Rattle.std.specs.Char.{to_ascii_lowercase}
use Rattle.fts_phrase.proofs.Seeking.{both_bits}
use Rattle.fts_phrase.proofs.seek.word_marks.Goals as goal

pub returns : goal.returns
returns c j less stands =
    let text = c.args.text.now in
    let word = c.args.word.now in
    let at = c.args.at in
    let last = length word - 1 in
    let first_place : at + j ≡ at + j + 0 = omega arith in
    let last_place : at + last + j ≡ at + j + last = omega arith in
    both_bits _ _ j
    (c.letter_marks.ensures j less (ap (λ (k : ℕ). to_ascii_lowercase (slice_index text k)) first_place ∙ stands.bytes 0 c.requires.some))
    (c.letter_marks-2.ensures j less (ap (λ (k : ℕ). to_ascii_lowercase (slice_index text k)) last_place ∙ stands.bytes last (omega (arith, c.requires.some))))
