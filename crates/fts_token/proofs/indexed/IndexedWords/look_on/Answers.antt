use Rattle.std.proofs.Common.{List, ◌++◌, take, sym, ap, ap₂, ◌∙◌}
use Rattle.fts_words.specs.declared.placed.PlacedWord.{PlacedWord}
use Rattle.fts_token.specs.Left.{indexed_among, indexed_words_left}
use Rattle.fts_token.proofs.Held.{none_held}
use Rattle.fts_token.proofs.indexed.IndexedWords.look_on.Goals as goal

pub returns-clause-left : goal.returns-clause-left
unfolding indexed_words_left
returns-clause-left c =
    let before = c.args.self.now in
    c.find_words-held.ensures.left ∙ ap (λ (t : List PlacedWord). t ++ indexed_among before.settings.now before.words) (sym (none_held before.found before.given before.held c.requires))

pub returns-clause-none : goal.returns-clause-none
unfolding indexed_words_left
returns-clause-none c = λ none.
    let found = c.find_words-held.new.found in
    ap₂ (λ (n : _) (t : List PlacedWord). take n found ++ t) (sym none) (c.find_words-held.ensures.none (sym none))
