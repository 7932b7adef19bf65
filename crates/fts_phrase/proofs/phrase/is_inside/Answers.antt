use Rattle.std.proofs.Common.{◌-◌, ◌∙◌, arith}
use Rattle.fts_phrase.proofs.Inside.{inside_first, inside_later}
use Rattle.fts_phrase.proofs.phrase.is_inside.Goals as goal

pub returns-then-place-eq0 : goal.returns-then-place-eq0
returns-then-place-eq0 c = inside_first c.args.text.now c.args.place c.if-place-eq0.true

pub returns : goal.returns
returns c = c.is_in_word.ensures ∙ inside_later c.args.text.now c.args.place (c.args.place - 1) (omega (arith, c.if-place-eq0.false))
