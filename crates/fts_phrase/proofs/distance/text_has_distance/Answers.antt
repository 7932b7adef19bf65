use Rattle.std.proofs.Common.{length, sym, ◌∙◌, ◌≤◌, arith}
use Rattle.fts_meaning.specs.Token.{words_in}
use Rattle.fts_phrase.proofs.Given.{lie_all, all_words, words_few_of}
use Rattle.fts_phrase.proofs.Near.{passing_first, passing_found, passing_far, passing_unmet, next_word}
use Rattle.fts_phrase.proofs.Noting.{some_words, no_word, zeros_of}
use Rattle.fts_phrase.proofs.distance.text_has_distance.Goals as goal

pub loop-found-init : goal.loop-found-init
loop-found-init c =
    passing_first c.args.text.now (words_in c.args.text.now) c.args.words.now c.args.reach _ c.fill.new.self
    (all_words c.args.text.now _ c.raw_words-rest.ensures) (lie_all c.args.text.now _ c.raw_words-rest.ensures) (c.fill.ensures.len ∙ c.requires) (λ k lt. zeros_of c.fill.new.self (length c.args.last.now) (c.fill.ensures.after (λ y same. cc)) k (omega (arith, lt, c.requires)))

pub overflow_add-number : goal.overflow_add-number
overflow_add-number c =
    let next = next_word c.args.text.now (words_in c.args.text.now) c.args.words.now c.args.reach _ _ c.in-Some.found c.loop-found.number c.loop-found.last c.in-Some.ensures.steps c.loop-found.invariant in
    let few : length (words_in c.args.text.now) ≤ length c.args.text.now = words_few_of c.args.text.now in
    omega (arith, next.0, few)

pub returns-then-are_near : goal.returns-then-are_near
returns-then-are_near c =
    passing_found c.args.text.now (words_in c.args.text.now) c.args.words.now c.args.reach _ _ c.in-Some.found c.loop-found.number c.loop-found.last c.note.new.last c.in-Some.ensures.steps c.loop-found.invariant
    (c.note.auto.last ∙ c.loop-found.invariant.long) c.note.ensures.last (sym c.are_near.ensures ∙ c.if-are_near.true)

pub loop-found-preserved-else-are_near : goal.loop-found-preserved-else-are_near
loop-found-preserved-else-are_near c =
    passing_far c.args.text.now (words_in c.args.text.now) c.args.words.now c.args.reach _ _ c.in-Some.found c.loop-found.number c.loop-found.last c.note.new.last c.in-Some.ensures.steps c.loop-found.invariant
    (c.note.auto.last ∙ c.loop-found.invariant.long) c.note.ensures.last (sym c.are_near.ensures ∙ c.if-are_near.false)

pub loop-found-preserved : goal.loop-found-preserved
loop-found-preserved c =
    let unmet = sym c.note.ensures.met ∙ c.if-note.false in
    passing_unmet c.args.text.now (words_in c.args.text.now) c.args.words.now c.args.reach _ _ c.in-Some.found c.loop-found.number c.loop-found.last c.note.new.last c.in-Some.ensures.steps c.loop-found.invariant
    (c.note.auto.last ∙ c.loop-found.invariant.long) c.note.ensures.last (some_words c.args.words.now _ unmet) (no_word c.args.words.now _ unmet)
