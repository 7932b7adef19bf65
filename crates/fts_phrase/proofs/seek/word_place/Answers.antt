use Rattle.std.proofs.Common.{sym, ◌∙◌, arith}
use Rattle.std.proofs.lemmas.Bool.{false≢true}
use Rattle.fts_phrase.proofs.Seeking.{before_next, before_both}
use Rattle.fts_phrase.proofs.seek.word_place.Goals as goal

pub returns-then-stands : goal.returns-then-stands
returns-then-stands c =
    let l = c.loop-place in
    let found = c.in-Some.ensures in
    (omega (arith, l.invariant.order, found.0), found.1, before_both c.args.text.now c.args.word.now c.args.at l.from c.in-Some.place l.invariant.none found.2)

pub loop-place-preserved : goal.loop-place-preserved
loop-place-preserved c =
    let l = c.loop-place in
    let found = c.in-Some.ensures in
    record {
      order = omega (arith, l.invariant.order, found.0);
      within = omega (arith, found.1);
      none = before_next c.args.text.now c.args.word.now c.args.at c.in-Some.place
          (before_both c.args.text.now c.args.word.now c.args.at l.from c.in-Some.place l.invariant.none found.2)
          (λ stands. false≢true (sym c.if-stands.false ∙ c.stands.ensures stands));
    }

pub returns : goal.returns
returns c =
    let l = c.loop-place in
    before_both c.args.text.now c.args.word.now c.args.at l.from _ l.invariant.none c.in_default.ensures
