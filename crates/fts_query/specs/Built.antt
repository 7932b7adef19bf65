use Rattle.std.specs.Prelude.{ℕ, List, [], ◌∷◌, ◌++◌, length}
use Rattle.fts_query.specs.declared.build.Bracket.{Bracket}
use Rattle.fts_query.specs.declared.build.Builder.{Builder}
use Rattle.fts_query.specs.View.{terms_view}
use Rattle.fts_meaning.specs.Tree.{Token, opening, written}

-- open brackets, each behind the terms before it, written out
abbrev pub written_open : List Bracket → List Token
written_open [] = []
written_open (bracket ∷ rest) = written (terms_view bracket.before.items) ++ (opening bracket.sign ∷ written_open rest)

-- a tree that is being built, written out
abbrev pub written_so_far : Builder → List Token
written_so_far builder = written_open builder.brackets.items ++ written (terms_view builder.terms.items)

-- how many brackets are open
abbrev pub height_of : Builder → ℕ
height_of builder = length builder.brackets.items
