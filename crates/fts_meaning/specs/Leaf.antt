use Rattle.std.specs.Prelude.{ℕ, List, [], ◌∷◌, ◌++◌, map, filter, if◌then◌else◌}
use Rattle.fts_words.specs.Indexed.{Rules, is_indexable}
use Rattle.fts_meaning.specs.Tree.{Operand, word, prefix, phrase, distance, Term, Terms, leaf, group, none, more}

-- What an operand of a query asks the index for: a word, the words that begin so, or the indexable words of a phrase
-- or a distance. A word that can't be an indexed word asks for nothing, and so does a phrase or a distance without an
-- indexable word.
pub data Leaf : Type 0 where
  no_leaf : Leaf
  of_word : List ℕ → Leaf
  of_prefix : List ℕ → Leaf
  of_words : List (List ℕ) → Leaf

-- the leaf of these indexable words
abbrev pub words_leaf : List (List ℕ) → Leaf
words_leaf [] = no_leaf
words_leaf (w ∷ ws) = of_words (w ∷ ws)

-- the leaf of an operand
abbrev pub leaf_of : Rules → Operand → Leaf
leaf_of rules (word w) = if is_indexable rules w then of_word w else no_leaf
leaf_of rules (prefix w) = of_prefix w
leaf_of rules (phrase words) = words_leaf (filter (is_indexable rules) words)
leaf_of rules (distance words n) = words_leaf (filter (is_indexable rules) words)

-- the operands of a query, those in brackets too, in their order
abbrev mutual
  pub operands_of : Term → List Operand
  operands_of (leaf sign operand) = operand ∷ []
  operands_of (group sign terms) = operands terms

  pub operands : Terms → List Operand
  operands none = []
  operands (more term rest) = operands_of term ++ operands rest

-- the leaves of a query: one for each operand, in their order
abbrev pub leaves : Rules → Terms → List Leaf
leaves rules terms = map (leaf_of rules) (operands terms)
