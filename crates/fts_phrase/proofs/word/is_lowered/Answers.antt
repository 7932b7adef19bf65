use Rattle.std.proofs.Common.{sym, arith, ◌∙◌}
use Rattle.fts_phrase.proofs.Given.{not_alike, all_alike}
use Rattle.fts_phrase.proofs.word.is_lowered.Goals as goal

pub returns-then-to_ascii_lowercase-word : goal.returns-then-to_ascii_lowercase-word
returns-then-to_ascii_lowercase-word c =
    sym (not_alike c.args.found.now c.args.word.now c.loop-place.place c.loop-place-test.true (λ e. c.if-to_ascii_lowercase-word.true (c.to_ascii_lowercase.ensures.value ∙ e)))

pub returns : goal.returns
returns c =
    sym (all_alike c.args.found.now c.args.word.now (omega arith) (λ k lt. c.loop-place.invariant k (omega (arith, lt))))
