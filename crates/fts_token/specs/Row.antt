use Rattle.std.specs.Prelude.{ℕ, ◌<◌, ◌≤◌, List, length}
use Rattle.fts_words.specs.declared.placed.PlacedWord.{PlacedWord}
use Rattle.fts_words.specs.Indexed.{column_text}

-- the word lies in one of the row's texts
pub record LiesIn (columns : List (List ℕ)) (word : PlacedWord) : Type 0 where
  pub column : word.column < length columns
  pub order : word.span.from ≤ word.span.to
  pub within : word.span.to ≤ length (column_text columns word.column)
