-- Words that begin with a prefix.
use Rattle.std.specs.Prelude.{ℕ, List, [], ◌∷◌, if◌then◌else◌}
use Rattle.fts_words.specs.Order.{begins_with}

-- of elements that each have a word, the first whose words begin so
abbrev pub front : {X : Type 0} → (X → List ℕ) → List ℕ → List X → List X
front word prefix [] = []
front word prefix (x ∷ xs) = if begins_with prefix (word x) then x ∷ front word prefix xs else []
