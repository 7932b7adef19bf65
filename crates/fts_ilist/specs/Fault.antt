-- Where bytes stop being a position list.
use Rattle.std.specs.Prelude.{◌≡◌, ℕ, ◌≤◌, List, [], ◌∷◌, ◌++◌, length, drop}
use Rattle.fts_ilist.specs.Spelling.{Posting, Item, item_bytes, items_bytes, postings_items, list_bytes, ArePostings}

-- the items of some list begin with these
abbrev pub BeginsList : List Item → Type 0
BeginsList items = (ps : List Posting) × (more : List Item) × ArePostings ps × (postings_items 0 ps ≡ items ++ more)

-- At this place the first item begins that no list has there, or an item is missing at the end.
pub record IsFirstFault (bytes : List ℕ) (at : ℕ) : Type 0 where
  -- the items before it, and that they begin a list
  pub items : List Item
  pub before : bytes ≡ items_bytes items ++ drop at bytes
  pub within : at ≤ length bytes
  pub begins : BeginsList items
  -- no item that may follow them stands here
  pub none : (item : Item) (rest : List ℕ) → drop at bytes ≡ item_bytes item ++ rest → BeginsList (items ++ item ∷ [])
      → ⊥
  -- and they are not a whole list
  pub unfinished : (ps : List Posting) → ArePostings ps → bytes ≡ list_bytes ps → ⊥
