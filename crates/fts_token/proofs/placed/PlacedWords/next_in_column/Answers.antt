use Rattle.std.proofs.Common.{◌≡◌, ◌∷◌, ◌++◌, ℕ, ◌+◌, List, [], sym, ap, ◌∙◌, subst}
use Rattle.fts_words.specs.declared.span.Span.{Span}
use Rattle.fts_words.specs.RawWords.{raw_words_from}
use Rattle.fts_words.specs.Indexed.{placed_spans}
use Rattle.fts_token.specs.Left.{placed_words_left, placed_words_behind}
use Rattle.fts_token.proofs.placed.PlacedWords.next_in_column.Goals as goal

pub returns-in_default-clause-stays : goal.returns-in_default-clause-stays
unfolding placed_words_left
returns-in_default-clause-stays c =
    let old = c.args.self.now in
    let none = subst (λ (t : List ℕ). raw_words_from t old.at ≡ []) c.requires.text c.in_default.ensures.none in
    c.pass.ensures.left ∙ sym (ap (λ (spans : List Span). placed_spans old.column old.offset old.number spans ++ placed_words_behind old) none)

pub returns-clause-some : goal.returns-clause-some
unfolding placed_words_left placed_words_behind
returns-clause-some c =
    let old = c.args.self.now in
    let found = c.in-Some.found.word in
    let some = subst (λ (t : List ℕ). raw_words_from t old.at ≡ found ∷ raw_words_from t (found.to + 1)) c.requires.text c.in-Some.ensures.some.first in
    ap (λ (spans : List Span). placed_spans old.column old.offset old.number spans ++ placed_words_behind old) some
