use Rattle.std.proofs.Common.{ap₂, List, ℕ}
use Rattle.std.specs.Prelude.{filter}
use Rattle.fts_words.specs.declared.placed.PlacedWord.{PlacedWord}
use Rattle.fts_words.specs.Indexed.{is_indexable, word_of}
use Rattle.fts_types.specs.Rules.{rules_of}
use Rattle.fts_token.specs.Left.{indexed_among, indexed_words_left}
use Rattle.fts_token.proofs.indexed.IndexedWords.new.Goals as goal

pub returns : goal.returns
unfolding indexed_words_left indexed_among
returns c =
    ap₂ (λ (columns : List (List ℕ)) (words : List PlacedWord). filter (λ word. is_indexable (rules_of c.args.settings.now) (word_of columns word)) words) c.new.ensures.row c.new.ensures.left
