use Rattle.std.proofs.Common.{◌≤◌, length, sym, ◌∙◌}
use Rattle.fts_token.specs.Left.{placed_words_left, placed_words_behind}
use Rattle.std.proofs.lemmas.Bool.{ltb-false}
use Rattle.fts_token.proofs.Rows.{nothing_left}
use Rattle.fts_token.proofs.placed.PlacedWords.advance.Goals as goal

pub returns : goal.returns
unfolding placed_words_left placed_words_behind
returns c =
    let here = c.loop-self.self in
    let over : length here.columns.now ≤ here.column = ltb-false here.column (length here.columns.now) (sym c.has_column.ensures ∙ c.loop-self-test.false) in
    let none = nothing_left here.columns.now here.column here.offset here.number here.at over in
    record { steps = (sym c.loop-self.invariant.left ∙ none, none) }
