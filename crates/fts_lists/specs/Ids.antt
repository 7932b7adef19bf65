-- Sets of ids, as ascending lists.
use Rattle.std.specs.Prelude.{◌≡◌, ℕ, ◌<◌, ◌%◌, Bool, true, not, List, [], ◌∷◌, fold, length}
use Rattle.std.specs.Ordering.{nat_cmp}
use Rattle.std.specs.BTreeSet.{insert_key}
use Rattle.std.specs.List.{filter}
use Rattle.fts_ids.specs.Ids.{has}
use Rattle.fts_ids.specs.Marks.{is_marked}

-- the ids of a set in ascending order, each once, and how many more it was given room for
pub record Held : Type 0 where
  pub ids : List ℕ
  pub room : ℕ

-- ascending ids with one more, in its place
abbrev pub with_id : List ℕ → ℕ → List ℕ
with_id ids id = insert_key nat_cmp ids id

-- ascending ids with some more, each in its place
abbrev pub with_ids : List ℕ → List ℕ → List ℕ
with_ids ids more = fold with_id ids more

-- the ids that are not among those taken
abbrev pub without : List ℕ → List ℕ → List ℕ
without taken ids = filter (λ id. not (has taken id)) ids

-- numbers in ascending order, each once
abbrev pub ascending : List ℕ → List ℕ
ascending [] = []
ascending (x ∷ xs) = with_id (ascending xs) x

-- each number that has a mark is marked exactly where it is among the ids
abbrev pub AreMarked : List Bool → List ℕ → Type 0
AreMarked marks ids = (id : ℕ) → id < length marks → is_marked marks id ≡ has ids id

-- the ids that may be among some: those whose remainder has a mark that is set, or has none
abbrev pub MayBeAmong : List Bool → List ℕ → Type 0
MayBeAmong marks ids = (id : ℕ) → has ids id ≡ true → id % 65536 < length marks → is_marked marks (id % 65536) ≡ true
