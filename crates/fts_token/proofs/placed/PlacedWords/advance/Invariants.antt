use Rattle.std.proofs.Common.{◌≡◌, ◌-◌, length}
use Rattle.fts_token.specs.Left.{columns_of, placed_words_left}
use Rattle.fts_token.proofs.placed.PlacedWords.advance.Given as goal

abbrev pub invariant-loop-self : goal.invariant-loop-self
invariant-loop-self l = record {
  left : placed_words_left l.self ≡ placed_words_left l.initial.self;
  row : columns_of l.self ≡ columns_of l.initial.self;
}

abbrev pub decreases-loop-self : goal.decreases-loop-self
decreases-loop-self l = length (columns_of l.self) - l.self.column
