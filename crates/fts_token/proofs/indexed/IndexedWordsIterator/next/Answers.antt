use Rattle.std.proofs.Common.{List, ◌++◌, length, sym, ap, ◌∙◌, arith, rules}
use Rattle.fts_words.specs.declared.placed.PlacedWord.{PlacedWord}
use Rattle.fts_token.specs.Left.{indexed_among, indexed_words_left}
use Rattle.fts_token.proofs.Held.{next_held}
use Rattle.fts_token.proofs.indexed.IndexedWordsIterator.next.Goals as goal

-- what the search for a place behind a buffer's end gives
abbrev no_word : PlacedWord
no_word = record { column = 0; span = record { from = 0; to = 0 }; number = 0; position = 0 }

pub returns-clause-steps : goal.returns-clause-steps
unfolding indexed_words_left
returns-clause-steps c =
    let s = c.prepare.new.self in
    sym c.prepare.ensures.left ∙ ap (λ (t : List PlacedWord). t ++ indexed_among s.settings.now s.words) (next_held s.found s.given s.held no_word (omega (arith, s.order, c.if-self.false)) (omega (arith, s.room)))

pub returns-clause-goes : goal.returns-clause-goes
unfolding indexed_words_left
returns-clause-goes c =
    let s = c.prepare.new.self in
    let step = sym c.prepare.ensures.left ∙ ap (λ (t : List PlacedWord). t ++ indexed_among s.settings.now s.words) (next_held s.found s.given s.held no_word (omega (arith, s.order, c.if-self.false)) (omega (arith, s.room))) in
    let shorter = ap length step in search rules
