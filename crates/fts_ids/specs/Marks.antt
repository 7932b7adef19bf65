-- Ids as marks, one for each number.
use Rattle.std.specs.Prelude.{◌≡◌, ℕ, ◌≤◌, Bool, true, false, List, slice_index_or}
use Rattle.std.specs.Borrow.{Bor}
use Rattle.std.specs.List.{list_any}
use Rattle.fts_ids.specs.Ids.{has}

-- whether an id is marked
abbrev pub is_marked : List Bool → ℕ → Bool
is_marked marks id = slice_index_or marks id false

-- whether one of the lists has the id
abbrev pub some_has : List (Bor (List ℕ)) → ℕ → Bool
some_has lists id = list_any (λ list. has list.now id) lists

-- the ids that pass a test are not above a bound
abbrev pub AreUpTo : ℕ → (ℕ → Bool) → Type 0
AreUpTo most test = (id : ℕ) → test id ≡ true → id ≤ most
