-- Sets of ids, as ascending lists.
use Rattle.std.specs.Prelude.{◌≡◌, ℕ, ◌+◌, ◌≤◌, Bool, not, List, [], ◌∷◌, nat_eq}
use Rattle.std.specs.List.{list_any, filter}

-- whether an id is among these
abbrev pub has : List ℕ → ℕ → Bool
has ids id = list_any (nat_eq id) ids

-- the ids that are among others too
abbrev pub common : List ℕ → List ℕ → List ℕ
common ids others = filter (has others) ids

-- the ids that are not among those taken
abbrev pub without : List ℕ → List ℕ → List ℕ
without ids taken = filter (λ id. not (has taken id)) ids

-- numbers from low on, each above the one before
abbrev pub AscendFrom : ℕ → List ℕ → Type 0
AscendFrom low [] = Unit {0}
AscendFrom low (x ∷ xs) = (low ≤ x) × AscendFrom (x + 1) xs

-- each is above the one before
abbrev pub Ascend : List ℕ → Type 0
Ascend ids = AscendFrom 0 ids

-- ids without some at the front that are below one: nothing is changed for that one and those above it
pub record PassesBelow (id : ℕ) (ids rest : List ℕ) : Type 0 where
  pub ascend : AscendFrom 0 rest
  pub kept : (later : ℕ) → id ≤ later → has rest later ≡ has ids later
