use Rattle.std.specs.Prelude.{◌≡◌, ℕ, ◌+◌, ◌<◌, ◌≤◌, ◌⊎◌, ◌==◌, List, length, take, count_by, slice_index, IsTrue}
use Rattle.fts_meaning.specs.Plain.{plain}
use Rattle.fts_meaning.specs.Token.{stray_at}

-- how many `(` (40) and how many `)` (41) stand before a place
abbrev pub opened : List ℕ → ℕ → ℕ
opened text place = count_by (λ byte. byte == 40) (take place text)

abbrev pub closed : List ℕ → ℕ → ℕ
closed text place = count_by (λ byte. byte == 41) (take place text)

-- a `(` without its `)`: from behind it up to any place, no more brackets close than open
pub record IsLoneOpen (text : List ℕ) (place : ℕ) : Type 0 where
  pub is : slice_index text place ≡ 40
  pub none : (end : ℕ) → place < end → end ≤ length text
      → closed text end + opened text (place + 1) ≤ opened text end + closed text (place + 1)

-- a `)` without its `(`: from any place up to it, no more brackets open than close
pub record IsLoneClose (text : List ℕ) (place : ℕ) : Type 0 where
  pub is : slice_index text place ≡ 41
  pub none : (begin : ℕ) → begin ≤ place → opened text place + closed text begin ≤ opened text begin + closed text place

-- a byte at fault: it is so by itself, or is a bracket without its partner
pub record IsFaulty (query text : List ℕ) (place : ℕ) : Type 0 where
  pub within : place < length text
  pub cause : IsTrue (stray_at query text place) ⊎ (IsLoneOpen text place ⊎ IsLoneClose text place)

-- a `(` that stands more than 32 deep, itself counted
pub record IsTooDeep (text : List ℕ) (place : ℕ) : Type 0 where
  pub within : place < length text
  pub is : slice_index text place ≡ 40
  pub deep : 32 + closed text place < opened text (place + 1)

-- no byte of the query is at fault
abbrev pub IsFaultless : List ℕ → Type 0
IsFaultless query = (place : ℕ) → IsFaulty query (plain query) place → ⊥

-- this place is the first of a kind
pub record IsFirst (Kind : ℕ → Type 0) (place : ℕ) : Type 0 where
  pub here : Kind place
  pub before : (i : ℕ) → i < place → Kind i → ⊥

-- the query has a byte at fault, and this is the leftmost
abbrev pub FaultsAt : List ℕ → ℕ → Type 0
FaultsAt query place = IsFirst (IsFaulty query (plain query)) place

-- no bracket of the query stands more than 32 deep
abbrev pub IsShallow : List ℕ → Type 0
IsShallow query = (place : ℕ) → IsTooDeep (plain query) place → ⊥

-- no byte of the query is at fault, and this bracket is the first that stands more than 32 deep
pub record IsTooDeepAt (query : List ℕ) (place : ℕ) : Type 0 where
  pub faultless : IsFaultless query
  pub first : IsFirst (IsTooDeep (plain query)) place
