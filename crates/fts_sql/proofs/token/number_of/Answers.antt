use Rattle.std.proofs.Common.{◌≡◌, [], drop, get_or, arith, ap, sym, ◌∙◌}
use Rattle.std.specs.Str.Parse.{digits_value, digits_value_after}
use Rattle.fts_sql.proofs.Bytes.{digits_value-ge, digit_at, digit_is}
use Rattle.std.proofs.lemmas.List.{drop_all}
use Rattle.fts_sql.proofs.token.number_of.Goals as goal

pub returns-in_err-checked_mul : goal.returns-in_err-checked_mul
returns-in_err-checked_mul c =
    let more = digits_value-ge c.loop-digit.value c.loop-digit.digit-index c.args.digits.now c.loop-digit-test.true c.loop-digit.invariant.whole in
    rw c.from_residual.ensures (λ h. c.in_err-checked_mul.ensures (omega (arith, more, h)))

pub returns-in_err-value : goal.returns-in_err-value
returns-in_err-value c =
    let more = digits_value-ge c.loop-digit.value c.loop-digit.digit-index c.args.digits.now c.loop-digit-test.true c.loop-digit.invariant.whole in
    let digit = digit_is (get_or c.args.digits.now c.loop-digit.digit-index 0) (digit_at c.args.digits.now c.loop-digit.digit-index c.requires c.loop-digit-test.true) in
    rw c.from_residual-in_err-value.ensures (λ h. c.in_err-value.ensures (omega (arith, more, h, digit.0, digit.2, c.in_ok-checked_mul.ensures)))

pub returns : goal.returns
returns c =
    let none : drop c.loop-digit.digit-index c.args.digits.now ≡ [] = drop_all c.loop-digit.digit-index c.args.digits.now c.loop-digit-test.false in
    let whole : c.loop-digit.value ≡ digits_value 10 c.args.digits.now =
    ap (digits_value_after 10 c.loop-digit.value) (sym none) ∙ c.loop-digit.invariant.whole in
    (omega (arith, whole, c.loop-digit.invariant.fits), whole)
