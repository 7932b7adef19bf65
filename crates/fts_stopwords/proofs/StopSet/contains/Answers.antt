use Rattle.std.proofs.Common.{◌≡◌, ◌∙◌, ◌↔◌, sym, subst, List, ℕ, Bool}
use Rattle.std.specs.Prelude.{IsTrue, Contains}
use Rattle.fts_words.specs.Order.{is_among}
use Rattle.fts_stopwords.specs.StopSet.{words_of}
use Rattle.fts_stopwords.proofs.Listed.{listed_iff_contains, listed_if_lower, not_listed}
use Rattle.fts_stopwords.proofs.StopSet.contains.Goals as goal

contained : (words : List (List ℕ)) (word : List ℕ) (answer : Bool) → answer ≡ is_among words word → IsTrue answer ↔ Contains words word
contained words word answer is = subst (λ (b : Bool). IsTrue b ↔ Contains words word) (sym is) (listed_iff_contains words word)

pub returns-then-contains_lowered-clause-listed : goal.returns-then-contains_lowered-clause-listed
returns-then-contains_lowered-clause-listed c = listed_if_lower c.args.self.now c.args.word.now _ (sym c.contains_lowered.ensures ∙ c.if-contains_lowered.true) c.is_lowered.ensures

pub returns-then-contains_lowered-clause-member : goal.returns-then-contains_lowered-clause-member
returns-then-contains_lowered-clause-member c = contained (words_of c.args.self.now) c.args.word.now _ (returns-then-contains_lowered-clause-listed c)

pub returns-else-contains_lowered-clause-listed : goal.returns-else-contains_lowered-clause-listed
returns-else-contains_lowered-clause-listed c = c.if-contains_lowered.false ∙ not_listed c.args.self.now c.args.word.now (sym c.contains_lowered.ensures ∙ c.if-contains_lowered.false)

pub returns-else-contains_lowered-clause-member : goal.returns-else-contains_lowered-clause-member
returns-else-contains_lowered-clause-member c = contained (words_of c.args.self.now) c.args.word.now _ (returns-else-contains_lowered-clause-listed c)
