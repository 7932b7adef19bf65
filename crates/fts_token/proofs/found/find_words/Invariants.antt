use Rattle.std.proofs.Common.{◌≡◌, ◌-◌, ◌≤◌, ◌++◌, length, take}
use Rattle.fts_token.specs.Left.{columns_of, indexed_among}
use Rattle.fts_token.proofs.found.find_words.Given as goal

abbrev pub invariant-loop-words : goal.invariant-loop-words
invariant-loop-words l = record {
  within : l.count ≤ 32;
  left : take l.count l.found ++ indexed_among l.settings l.words ≡ indexed_among l.settings l.initial.words;
}

abbrev pub decreases-loop-words : goal.decreases-loop-words
decreases-loop-words l = length (columns_of l.words) - l.words.column
