-- How far a reader has come, and why it goes no further.
use Rattle.std.specs.Prelude.{◌≡◌, ℕ, ◌+◌, ◌-◌, ◌^◌, ◌<◌, ◌≤◌, List, [], ◌∷◌, ◌++◌, length, drop, Bool, false, ◌==◌}
use Rattle.std.specs.Prelude.{nat_lt, if◌then◌else◌}
use Rattle.std.specs.Int.{w64, trailing_zeros}
use Rattle.fts_ilist.specs.Number.{number_bytes}
use Rattle.fts_ilist.specs.Spelling.{Item, item_bytes, items_bytes, position_items, PositionsFrom, ArePositions}
use Rattle.fts_ilist.specs.Spelling.{next_at_end}
use Rattle.fts_ilist.specs.Spelling.Item.{increase, document_end}
use Rattle.fts_ilist.specs.Reading.{State}
use Rattle.fts_ilist.specs.Reading.State.{between, inside}

-- a reader that takes these items comes from one state to another
abbrev pub Runs : State → List Item → State → Type 0
Runs s [] t = s ≡ t
Runs (between last) (increase n ∷ items) t = (0 < n) × (last + n < 2 ^ 63) × Runs (inside (last + n) 0) items t
Runs (between last) (document_end ∷ items) t = ⊥
Runs (inside id next) (increase n ∷ items) t = (0 < n) × (next + n ≤ 131072) × Runs (inside id (next + n)) items t
Runs (inside id next) (document_end ∷ items) t = (0 < next) × Runs (between id) items t

-- from one place to another stand items that bring a reader from one state to another
pub record ReadsItems (bytes : List ℕ) (from : ℕ) (s : State) (to : ℕ) (t : State) : Type 0 where
  pub items : List Item
  pub parts : drop from bytes ≡ items_bytes items ++ drop to bytes
  pub within : to ≤ length bytes
  pub order : from ≤ to
  pub runs : Runs s items t

-- here a reader in this state can take no item, and is not at the end of a list
pub record IsStuck (bytes : List ℕ) (at : ℕ) (s : State) : Type 0 where
  pub none : (item : Item) (rest : List ℕ) (t : State) → drop at bytes ≡ item_bytes item ++ rest → Runs s (item ∷ []) t
      → ⊥
  pub unfinished : (last : ℕ) → drop at bytes ≡ [] → s ≡ between last → ⊥

-- a reader that begins in this state at this place gets stuck at a later one
pub record GetsStuck (bytes : List ℕ) (from : ℕ) (s : State) (at : ℕ) : Type 0 where
  pub state : State
  pub reads : ReadsItems bytes from s at state
  pub stuck : IsStuck bytes at state

-- at this place stands an increase that brings a number from last to value, within a limit, and ends at end
pub record ReadsIncrease (bytes : List ℕ) (at last limit value end : ℕ) : Type 0 where
  pub above : last < value
  pub within_limit : value ≤ limit
  pub parts : drop at bytes ≡ number_bytes (value - last) ++ drop end bytes
  pub order : at < end
  pub within : end ≤ length bytes

-- here stands no increase that keeps a number within a limit
abbrev pub HasNoIncrease : List ℕ → ℕ → ℕ → ℕ → Type 0
HasNoIncrease bytes at last limit = (n : ℕ) (rest : List ℕ) → drop at bytes ≡ number_bytes n ++ rest → 0 < n
    → last + n ≤ limit → ⊥

-- from start to at stand positions, and next is the last of them + 1, or 0 where there is none
pub record ReadsPositions (bytes : List ℕ) (start at next : ℕ) : Type 0 where
  pub positions : List ℕ
  pub from : PositionsFrom 0 positions
  pub next_is : next ≡ next_at_end 0 positions
  pub parts : drop start bytes ≡ items_bytes (position_items 0 positions) ++ drop at bytes
  pub order : start ≤ at
  pub within : at ≤ length bytes

-- from start stand positions of one document, and its end before the place end
pub record ReadsBody (bytes : List ℕ) (start end : ℕ) : Type 0 where
  pub positions : List ℕ
  pub are_positions : ArePositions positions
  pub body : drop start bytes ≡ items_bytes (position_items 0 positions) ++ 0 ∷ drop end bytes
  pub order : start < end
  pub within : end ≤ length bytes

-- at this place stands a document behind the id last: its number, its positions from start on, its end
pub record ReadsDocument (bytes : List ℕ) (at last id start end : ℕ) : Type 0 where
  pub positions : List ℕ
  pub are_positions : ArePositions positions
  pub above : last < id
  pub limit : id < 2 ^ 63
  pub front : drop at bytes ≡ number_bytes (id - last) ++ drop start bytes
  pub body : drop start bytes ≡ items_bytes (position_items 0 positions) ++ 0 ∷ drop end bytes
  pub front_order : at < start
  pub order : start < end
  pub within : end ≤ length bytes

-- whether a document ends with this byte: the first 00 behind a byte of 128 or more ends it
abbrev pub is_end : ℕ → ℕ → Bool
is_end before byte = if nat_lt before 128 then false else (byte == 0)

-- how many bytes stand before the first that ends a document
unfoldable pub to_end : ℕ → List ℕ → ℕ
to_end before [] = 0
to_end before (b ∷ bs) = if is_end before b then 0 else 1 + to_end b bs

-- up to a place, before which this byte stands, no document ends
abbrev pub HasNoEndBefore : List ℕ → ℕ → ℕ → Type 0
HasNoEndBefore bytes at before = to_end 0 bytes ≡ at + to_end before (drop at bytes)

-- the bytes begin with positions of a document, and its end
pub record BeginsBody (bytes : List ℕ) : Type 0 where
  pub positions : List ℕ
  pub are_positions : ArePositions positions
  pub rest : List ℕ
  pub body : bytes ≡ items_bytes (position_items 0 positions) ++ 0 ∷ rest

-- the positions of a document and its end take so many bytes, if these begin so
abbrev pub EndsBody : List ℕ → ℕ → Type 0
EndsBody bytes end = (positions : List ℕ) (rest : List ℕ) → ArePositions positions
    → bytes ≡ items_bytes (position_items 0 positions) ++ 0 ∷ rest
    → end ≡ length (items_bytes (position_items 0 positions)) + 1

-- the first of two ids, where 0 is none
abbrev pub first_or : ℕ → ℕ → ℕ
first_or first id = if first == 0 then id else first

-- the place of the lowest bit that is set, and 16 where none is
abbrev pub first_set : ℕ → ℕ
first_set mask = if mask == 0 then 16 else trailing_zeros w64 mask
