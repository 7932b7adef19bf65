use Rattle.std.specs.Prelude.{List, [], ◌∷◌}
use Rattle.fts_query.specs.declared.query.Operand.{Operand}
use Rattle.fts_query.specs.declared.query.Operand.TheVariants.{Word, Prefix, Phrase, Distance}
use Rattle.fts_query.specs.declared.query.Term.{Term, Leaf, Group', Row_of-Term, end_of-Term, more_of-Term}
use Rattle.fts_query.specs.declared.query.Query.{Query}
use Rattle.fts_meaning.specs.Tree as tree
use Rattle.fts_meaning.specs.Tree.{Terms, word, prefix, phrase, distance, leaf, group, none, more}

-- an operand, as the definitions have it
abbrev pub operand_view : Operand → tree.Operand
operand_view (Word w) = word w.items
operand_view (Prefix w) = prefix w.items
operand_view (Phrase words) = phrase words
operand_view (Distance words n) = distance words n

-- a term, and the terms of a group
abbrev mutual
  pub term_view : Term → tree.Term
  term_view (Leaf sign operand) = leaf sign (operand_view operand)
  term_view (Group' sign shape all) = group sign (row_view all)

  pub row_view : {m : _} → Row_of-Term m → Terms
  row_view end_of-Term = none
  row_view (more_of-Term term rest) = more (term_view term) (row_view rest)

-- a list of terms
abbrev pub terms_view : List Term → Terms
terms_view [] = none
terms_view (term ∷ rest) = more (term_view term) (terms_view rest)

-- the tree of a query
abbrev pub tree_of : Query → Terms
tree_of query = terms_view query.terms.items
