use Rattle.std.specs.Prelude.{ℕ, List, [], ◌∷◌, ◌++◌}
use Rattle.fts_meaning.specs.declared.sign.Sign.{Sign}

-- a word, the front of words, a phrase, and words at a distance; words with their letters lowered
pub data Operand : Type 0 where
  word : List ℕ → Operand
  prefix : List ℕ → Operand
  phrase : List (List ℕ) → Operand
  distance : List (List ℕ) → ℕ → Operand

-- A query is a list of terms. A term has a sign and is an operand, or a group of terms in brackets.
mutual
  pub data Term : Type 0 where
    leaf : Sign → Operand → Term
    group : Sign → Terms → Term

  pub data Terms : Type 0 where
    none : Terms
    more : Term → Terms → Terms

-- what the text of a query is made of: operands and opening brackets, each with its sign; closing brackets; bytes that
-- no query can have where they stand
pub data Token : Type 0 where
  single : Sign → Operand → Token
  opening : Sign → Token
  closing : Token
  stray : Token

-- a tree, written out
abbrev mutual
  pub written_term : Term → List Token
  written_term (leaf sign operand) = single sign operand ∷ []
  written_term (group sign terms) = opening sign ∷ (written terms ++ closing ∷ [])

  pub written : Terms → List Token
  written none = []
  written (more term rest) = written_term term ++ written rest
