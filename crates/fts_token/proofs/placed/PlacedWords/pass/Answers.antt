use Rattle.std.proofs.Common.{◌≡◌, ◌+◌, ◌++◌, ℕ, false, List, [], length, refl, ap, subst, arith}
use Rattle.fts_words.specs.declared.span.Span.{Span}
use Rattle.fts_words.specs.RawWords.{raw_words_from}
use Rattle.fts_words.specs.Indexed.{placed_spans}
use Rattle.fts_token.specs.Bounds.{is_inside}
use Rattle.fts_token.specs.Left.{placed_words_left, placed_words_behind}
use Rattle.fts_token.proofs.Blocks.{no_words, outside_over}
use Rattle.fts_token.proofs.placed.PlacedWords.pass.Goals as goal

pub returns-clause-left : goal.returns-clause-left
unfolding placed_words_left placed_words_behind
returns-clause-left c =
    let old = c.args.self.now in
    let none = subst (λ (t : List ℕ). raw_words_from t (length c.args.text.now + 1) ≡ []) c.requires.text (no_words c.args.text.now (length c.args.text.now + 1) (omega arith)) in
    ap (λ (spans : List Span). placed_spans old.column old.offset old.number spans ++ placed_words_behind old) none

pub returns-clause-behind : goal.returns-clause-behind
unfolding placed_words_behind
returns-clause-behind c = refl

pub invariant_of-self-clause-within : goal.invariant_of-self-clause-within
invariant_of-self-clause-within c = let long = ap length c.requires.text in omega (arith, long)

pub invariant_of-self-clause-outside : goal.invariant_of-self-clause-outside
invariant_of-self-clause-outside c = subst (λ (t : List ℕ). is_inside t (length c.args.text.now + 1) ≡ false) c.requires.text (outside_over c.args.text.now)
