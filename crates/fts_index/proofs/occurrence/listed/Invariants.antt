use Rattle.fts_types.specs.Rules.{rules_of}
use Rattle.fts_token.specs.Left.{indexed_words_left}
use Rattle.fts_index.proofs.RowWords.{IsListing}
use Rattle.fts_index.proofs.occurrence.listed.Given as goal

abbrev pub invariant-loop-found : goal.invariant-loop-found
invariant-loop-found l = IsListing (rules_of l.settings) l.texts l.all.items (indexed_words_left l.found-iterator)
