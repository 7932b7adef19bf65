-- Histories: lists of entries, each made by a seat.
use Rattle.std.specs.Prelude.{◌≡◌, ◌==◌, ℕ, ◌≤◌, List, [], ◌∷◌, ◌++◌}
use Rattle.std.specs.List.{filter}

-- the history begins with what was seen
abbrev pub Begins : {E : Type 0} → List E → List E → Type 0
Begins {E} seen history = (rest : List E) × (history ≡ seen ++ rest)

-- the entries that one seat made, in their order
abbrev pub entries_by : {E : Type 0} → (E → ℕ) → ℕ → List E → List E
entries_by by seat entries = filter (λ e. by e == seat) entries

-- one seat made all the entries
abbrev pub AllBy : {E : Type 0} → (E → ℕ) → ℕ → List E → Type 0
AllBy by seat [] = Unit {0}
AllBy by seat (e ∷ entries) = (by e ≡ seat) × AllBy by seat entries

-- no seat with this number or a higher one made an entry
abbrev pub NoneFrom : {E : Type 0} → (E → ℕ) → ℕ → List E → Type 0
NoneFrom by number entries = (seat : ℕ) → number ≤ seat → entries_by by seat entries ≡ []
