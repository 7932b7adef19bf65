use Rattle.std.proofs.Common.{List, ℕ, length, subst}
use Rattle.fts_phrase.specs.Words.{StandsAtNone}
use Rattle.fts_phrase.proofs.Places.{from_start, found_here, go_on, found_nowhere}
use Rattle.fts_phrase.proofs.phrase.text_has_phrase.Goals as goal

pub loop-place-init : goal.loop-place-init
loop-place-init c = from_start c.args.text.now c.args.words.now

pub returns-then-stand_at : goal.returns-then-stand_at
returns-then-stand_at c =
    let found = c.in-Some.ensures in
    let text = c.args.text.now in
    found_here text c.args.words.now c.loop-place.at c.in-Some.place _ found.0 found.1
    (subst (λ (word : List ℕ). StandsAtNone text word c.loop-place.at c.in-Some.place) c.first_of-first.ensures found.2) c.stand_at.ensures c.if-stand_at.true c.loop-place.invariant

pub loop-place-preserved : goal.loop-place-preserved
loop-place-preserved c =
    let found = c.in-Some.ensures in
    let text = c.args.text.now in
    go_on text c.args.words.now c.loop-place.at c.in-Some.place _ found.0 found.1
    (subst (λ (word : List ℕ). StandsAtNone text word c.loop-place.at c.in-Some.place) c.first_of-first.ensures found.2) c.stand_at.ensures c.if-stand_at.false c.loop-place.invariant

pub returns : goal.returns
returns c =
    let text = c.args.text.now in
    found_nowhere text c.args.words.now c.loop-place.at
    (subst (λ (word : List ℕ). StandsAtNone text word c.loop-place.at (length text)) c.first_of-first.ensures c.in_default.ensures) c.loop-place.invariant
