-- What a list of terms says of a row, term by term.
use Rattle.std.proofs.Common.{◌≡◌, ℕ, ◌&&◌, ◌||◌, List}
use Rattle.fts_words.specs.Indexed.{Rules}
use Rattle.fts_meaning.specs.Tree.{Terms}
use Rattle.fts_meaning.specs.Tree as tree
use Rattle.fts_meaning.specs.Holds.{none_excluded, each_required, has_required, some_optional}
use Rattle.fts_plain.specs.declared.verdict.Verdict.{Verdict}

-- what was read of the terms, and what is left of them, say together what all say
pub record Continues (rules : Rules) (columns : List (List ℕ)) (v : Verdict) (left all : Terms) : Type 0 where
  pub none_is : (v.none_excluded && none_excluded rules columns left) ≡ none_excluded rules columns all
  pub each_is : (v.each_required && each_required rules columns left) ≡ each_required rules columns all
  pub has_is : (v.has_required || has_required rules left) ≡ has_required rules all
  pub some_is : (v.some_optional || some_optional rules columns left) ≡ some_optional rules columns all
