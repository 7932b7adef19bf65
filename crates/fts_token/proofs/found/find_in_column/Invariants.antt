use Rattle.std.proofs.Common.{◌≡◌, ◌≤◌, ◌++◌, length, take}
use Rattle.fts_token.specs.Left.{columns_of, placed_words_left, indexed_among}
use Rattle.fts_token.proofs.found.find_in_column.Given as goal

abbrev pub invariant-loop-count : goal.invariant-loop-count
invariant-loop-count l = record {
  long : length l.found ≡ 32;
  within : l.count ≤ 32;
  left : take l.count l.found ++ indexed_among l.settings l.ahead ≡ take l.initial.count l.initial.found ++ indexed_among l.settings l.words;
  column : l.ahead.column ≡ l.words.column;
  row : columns_of l.ahead ≡ columns_of l.words;
}

abbrev pub decreases-loop-count : goal.decreases-loop-count
decreases-loop-count l = length (placed_words_left l.ahead)
