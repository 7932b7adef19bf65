use Rattle.std.proofs.Common.{◌≡◌, ◌+◌, ◌<◌, ℕ, List, sym, ap, ◌∙◌, subst, arith}
use Rattle.std.proofs.lemmas.List.{get_or_past}
use Rattle.fts_words.specs.Byte.{word_at}
use Rattle.fts_meaning.specs.Distance.{tail_len, decimal_value}
use Rattle.fts_query.proofs.TailLemmas.{no_mark, no_digit, word_behind, too_large, a_tail, count_is, digits_are}
use Rattle.fts_query.proofs.distance.distance_tail.Goals as goal

pub returns-then-mark-behind-clause-none : goal.returns-then-mark-behind-clause-none
returns-then-mark-behind-clause-none c =
    let behind = c.args.behind.now in
    let past = get_or_past behind c.blank_count-mark.result 0 c.if-mark-behind.true in
    no_mark behind _ c.blank_count-mark.ensures.count (λ at. absurd (omega (arith, past, at)))

pub returns-then-behind-mark-ne64-clause-none : goal.returns-then-behind-mark-ne64-clause-none
returns-then-behind-mark-ne64-clause-none c = no_mark c.args.behind.now _ c.blank_count-mark.ensures.count c.if-behind-mark-ne64.true

pub returns-then-count-eq0-clause-none : goal.returns-then-count-eq0-clause-none
returns-then-count-eq0-clause-none c =
    let behind = c.args.behind.now in
    let counted = count_is behind _ _ c.blank_count-mark.ensures.count c.digit_count-count.ensures.count in
    no_digit behind (sym counted ∙ c.if-count-eq0.true)

pub returns-then-has_word_byte-clause-none : goal.returns-then-has_word_byte-clause-none
returns-then-has_word_byte-clause-none c =
    let behind = c.args.behind.now in
    let mark_is = c.blank_count-mark.ensures.count in
    let counted = count_is behind _ _ mark_is c.digit_count-count.ensures.count in
    let len_is : c.blank_count-mark.result + 1 + c.digit_count-count.result ≡ tail_len behind = omega arith in
    word_behind behind (ap (word_at behind) (sym len_is) ∙ sym c.if-has_word_byte.ensures)

pub returns-in_err-number-clause-none : goal.returns-in_err-number-clause-none
returns-in_err-number-clause-none c =
    let behind = c.args.behind.now in
    let mark_is = c.blank_count-mark.ensures.count in
    let counted = count_is behind _ _ mark_is c.digit_count-count.ensures.count in
    let P : List ℕ → Type 0 = λ ds. 65535 < decimal_value ds in
    let large = subst P (digits_are behind _ _ mark_is counted) c.in_err-number.ensures.none in
    rw c.from_residual.ensures (too_large behind large)

pub returns-clause-some : goal.returns-clause-some
returns-clause-some c =
    let behind = c.args.behind.now in
    let mark_is = c.blank_count-mark.ensures.count in
    let counted = count_is behind _ _ mark_is c.digit_count-count.ensures.count in
    let len_is : c.blank_count-mark.result + 1 + c.digit_count-count.result ≡ tail_len behind = omega arith in
    let number_is = c.in_ok-number.ensures.some ∙ ap decimal_value (digits_are behind _ _ mark_is counted) in
    let none_behind = ap (word_at behind) (sym len_is) ∙ sym c.if-has_word_byte.ensures in
    a_tail behind _ mark_is c.if-behind-mark-ne64.false (omega arith) (omega arith) none_behind _ _ len_is number_is
