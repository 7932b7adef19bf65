use Rattle.std.proofs.Common.{◌≡◌, ℕ, ◌+◌, ◌-◌, List, [], ◌∷◌, ◌++◌, get_or, ap, ap₂, sym, ◌∙◌, subst, append-nil}
use Rattle.fts_meaning.specs.declared.sign.Sign.{Sign}
use Rattle.fts_meaning.specs.Quote.{closing_quote}
use Rattle.fts_meaning.specs.Tree.{Operand, Token, single, opening}
use Rattle.fts_meaning.specs.Token.{sign_of, quoted, tokens_from, word_operand}
use Rattle.fts_meaning.specs.Nesting.{Nests}
use Rattle.fts_query.specs.Built.{written_so_far}
use Rattle.fts_query.proofs.Ahead.{none_starts, one_starts, word_order, word_within}
use Rattle.fts_query.proofs.Taking.{take_quote, no_unclosed, take_open, close_above, take_close, take_word, take_nothing, on_ok, some_if}
use Rattle.fts_query.proofs.build.Builder.take.Goals as goal

pub take_phrase-requires-clause-closed : goal.take_phrase-requires-clause-closed
take_phrase-requires-clause-closed c =
    some_if (closing_quote c.args.query.now c.args.place)
    (no_unclosed c.args.query.now c.args.text.now c.args.place _ c.requires.within c.requires.nests c.if-text-place-eq34.true)

pub returns-then-text-place-eq34-clause-written : goal.returns-then-text-place-eq34-clause-written
returns-then-text-place-eq34-clause-written c =
    let text = c.args.text.now in
    let i = c.args.place in
    let sign_is : c.sign_of-sign.result ≡ sign_of (get_or text (i - 1) 0) = cc in
    let taken = take_quote c.args.query.now text i _ c.requires.within c.requires.nests c.if-text-place-eq34.true in
    on_ok c.take_phrase.result c.take_phrase.ensures.written (λ written.
    written ∙ ap (λ (token : List Token). written_so_far c.args.self.now ++ token)
    (ap (λ (s : Sign). single s (quoted c.args.query.now i (closing_quote c.args.query.now i)) ∷ []) sign_is ∙ sym taken.is))

pub returns-then-text-place-eq34-clause-nests : goal.returns-then-text-place-eq34-clause-nests
returns-then-text-place-eq34-clause-nests c =
    let taken = take_quote c.args.query.now c.args.text.now c.args.place _ c.requires.within c.requires.nests c.if-text-place-eq34.true in
    let nests = subst (λ (h : ℕ). Nests h (tokens_from c.args.query.now c.args.text.now (c.args.place + 1))) (sym c.take_phrase.ensures.height) taken.nests in
    on_ok c.take_phrase.result c.take_phrase.ensures.written (λ _. nests)

pub returns-then-text-place-eq40-clause-written : goal.returns-then-text-place-eq40-clause-written
returns-then-text-place-eq40-clause-written c =
    let text = c.args.text.now in
    let i = c.args.place in
    let sign_is : c.sign_of-sign.result ≡ sign_of (get_or text (i - 1) 0) = cc in
    let taken = take_open c.args.query.now text i _ c.requires.within c.requires.nests c.if-text-place-eq40.true in
    on_ok c.open_bracket.result c.open_bracket.ensures.written (λ written.
    written ∙ ap (λ (token : List Token). written_so_far c.args.self.now ++ token) (ap (λ (s : Sign). opening s ∷ []) sign_is ∙ sym taken.is))

pub returns-then-text-place-eq40-clause-nests : goal.returns-then-text-place-eq40-clause-nests
returns-then-text-place-eq40-clause-nests c =
    let taken = take_open c.args.query.now c.args.text.now c.args.place _ c.requires.within c.requires.nests c.if-text-place-eq40.true in
    on_ok c.open_bracket.result c.open_bracket.ensures.height (λ height.
    subst (λ (h : ℕ). Nests h (tokens_from c.args.query.now c.args.text.now (c.args.place + 1))) (sym height) taken.nests)

pub close_bracket-requires : goal.close_bracket-requires
close_bracket-requires c = close_above c.args.query.now c.args.text.now c.args.place _ c.requires.within c.requires.nests c.if-text-place-eq41.true

pub returns-then-text-place-eq41-clause-written : goal.returns-then-text-place-eq41-clause-written
returns-then-text-place-eq41-clause-written c =
    let taken = take_close c.args.query.now c.args.text.now c.args.place _ c.requires.within c.requires.nests c.if-text-place-eq41.true in
    on_ok c.close_bracket.result c.close_bracket.ensures.written (λ written.
    written ∙ ap (λ (token : List Token). written_so_far c.args.self.now ++ token) (sym taken.is))

pub returns-then-text-place-eq41-clause-nests : goal.returns-then-text-place-eq41-clause-nests
returns-then-text-place-eq41-clause-nests c =
    let taken = take_close c.args.query.now c.args.text.now c.args.place _ c.requires.within c.requires.nests c.if-text-place-eq41.true in
    on_ok c.close_bracket.result c.close_bracket.ensures.height (λ height.
    subst (λ (h : ℕ). Nests h (tokens_from c.args.query.now c.args.text.now (c.args.place + 1))) (sym height) taken.nests)

pub returns-in-None-clause-written : goal.returns-in-None-clause-written
returns-in-None-clause-written c =
    let start = none_starts c.args.text.now c.args.place (sym c.in-None.is ∙ c.requires.word) in
    let taken = take_nothing c.args.query.now c.args.text.now c.args.place _ c.requires.within c.requires.nests c.if-text-place-eq34.false c.if-text-place-eq40.false c.if-text-place-eq41.false start in
    sym (ap (λ (token : List Token). written_so_far c.args.self.now ++ token) taken.is ∙ append-nil (written_so_far c.args.self.now))

pub returns-in-None-clause-nests : goal.returns-in-None-clause-nests
returns-in-None-clause-nests c =
    let start = none_starts c.args.text.now c.args.place (sym c.in-None.is ∙ c.requires.word) in
    (take_nothing c.args.query.now c.args.text.now c.args.place _ c.requires.within c.requires.nests c.if-text-place-eq34.false c.if-text-place-eq40.false c.if-text-place-eq41.false start).nests

pub word_operand-requires-clause-order : goal.word_operand-requires-clause-order
word_operand-requires-clause-order c =
    word_order c.args.text.now c.args.place c.in-Some.word (one_starts c.args.text.now c.args.place c.in-Some.word (sym c.in-Some.is ∙ c.requires.word)).1

pub word_operand-requires-clause-within : goal.word_operand-requires-clause-within
word_operand-requires-clause-within c =
    word_within c.args.text.now c.args.place c.in-Some.word c.requires.within (one_starts c.args.text.now c.args.place c.in-Some.word (sym c.in-Some.is ∙ c.requires.word)).1

pub returns-in_ok-operand-in-Some-clause-written : goal.returns-in_ok-operand-in-Some-clause-written
returns-in_ok-operand-in-Some-clause-written c =
    let text = c.args.text.now in
    let i = c.args.place in
    let sign_is : c.sign_of-sign.result ≡ sign_of (get_or text (i - 1) 0) = cc in
    let start = one_starts text i c.in-Some.word (sym c.in-Some.is ∙ c.requires.word) in
    let taken = take_word c.args.query.now text i _ c.requires.within c.requires.nests c.if-text-place-eq34.false c.if-text-place-eq40.false c.if-text-place-eq41.false start.0 in
    let operand_is = c.in_ok-operand-in-Some.ensures ∙ ap (word_operand text) start.1 in
    on_ok c.add.result c.add.ensures.written (λ written.
    written ∙ ap (λ (token : List Token). written_so_far c.args.self.now ++ token) (ap₂ (λ (s : Sign) (o : Operand). single s o ∷ []) sign_is operand_is ∙ sym taken.is))

pub returns-in_ok-operand-in-Some-clause-nests : goal.returns-in_ok-operand-in-Some-clause-nests
returns-in_ok-operand-in-Some-clause-nests c =
    let start = one_starts c.args.text.now c.args.place c.in-Some.word (sym c.in-Some.is ∙ c.requires.word) in
    let taken = take_word c.args.query.now c.args.text.now c.args.place _ c.requires.within c.requires.nests c.if-text-place-eq34.false c.if-text-place-eq40.false c.if-text-place-eq41.false start.0 in
    let nests = subst (λ (h : ℕ). Nests h (tokens_from c.args.query.now c.args.text.now (c.args.place + 1))) (sym c.add.ensures.height) taken.nests in
    on_ok c.add.result c.add.ensures.written (λ _. nests)
