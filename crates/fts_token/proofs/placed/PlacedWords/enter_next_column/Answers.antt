use Rattle.std.proofs.Common.{◌≡◌, ◌+◌, ℕ, List, length, drop, refl, ap, ◌∙◌, subst, arith}
use Rattle.fts_words.specs.Indexed.{column_text, placed_words_from}
use Rattle.fts_token.specs.Left.{placed_words_left, placed_words_behind}
use Rattle.fts_token.specs.Bounds.{is_inside, IsAhead}
use Rattle.fts_token.proofs.Rows.{words_from_column}
use Rattle.fts_token.proofs.placed.PlacedWords.enter_next_column.Goals as goal

pub returns-clause-left : goal.returns-clause-left
unfolding placed_words_left placed_words_behind
returns-clause-left c =
    let old = c.args.self.now in
    let columns = old.columns.now in
    let length_is : length c.text.result.now ≡ length (column_text columns old.column) = ap length c.text.ensures in
    let place : old.offset + (length c.text.result.now + 1) ≡ old.offset + length (column_text columns old.column) + 1 = omega arith in
    words_from_column columns (old.column + 1) (old.offset + (length c.text.result.now + 1))
    ∙ ap (λ (x : ℕ). placed_words_from (old.column + 1) x (drop (old.column + 1) columns)) place

pub invariant_of-self-clause-ahead : goal.invariant_of-self-clause-ahead
invariant_of-self-clause-ahead c = subst (λ (t : List ℕ). IsAhead t 0 c.first-self.result.start c.first-self.result.bounds) c.text_of.ensures c.first-self.ensures

pub invariant_of-self-clause-outside : goal.invariant_of-self-clause-outside
unfolding is_inside
invariant_of-self-clause-outside c = refl
