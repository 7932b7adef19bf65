use Rattle.std.proofs.Common.{arith, ◌∙◌, sym}
use Rattle.fts_rows.proofs.Setting.{kept_more, kept_end, not_set}
use Rattle.fts_rows.proofs.updating.keeps_all.Goals as goal

pub loop-place-preserved : goal.loop-place-preserved
loop-place-preserved c =
    let news = c.args.news.now in
    let texts = c.args.texts.now in
    let place = c.loop-place.place in
    kept_more news texts place (omega (arith, c.if-len.false, c.len.ensures, c.len-2.ensures, c.len-place-end.ensures, c.loop-place-test.true))
    (omega (arith, c.len-place-end.ensures, c.loop-place-test.true))
    (not_set news place c.text.result c.text.ensures (sym c.is_some.ensures ∙ c.if-is_some.false)) c.loop-place.invariant

pub returns : goal.returns
returns c = λ holds. kept_end c.args.news.now c.args.texts.now c.loop-place.place (omega (arith, c.len-place-end.ensures, c.loop-place-test.false)) c.loop-place.invariant
