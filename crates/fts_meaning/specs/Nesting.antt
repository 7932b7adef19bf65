use Rattle.std.specs.Prelude.{◌≡◌, ℕ, ◌+◌, ◌-◌, ◌<◌, List, [], ◌∷◌}
use Rattle.fts_meaning.specs.Tree.{Token, single, opening, closing, stray}

-- the tokens have no stray byte and, behind so many open brackets, each bracket has its partner
unfoldable pub Nests : ℕ → List Token → Type 0
Nests height [] = height ≡ 0
Nests height (single sign operand ∷ rest) = Nests height rest
Nests height (opening sign ∷ rest) = Nests (height + 1) rest
Nests height (closing ∷ rest) = (0 < height) × Nests (height - 1) rest
Nests height (stray ∷ rest) = ⊥
