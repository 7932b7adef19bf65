-- Where the rows of a table stand.
use Rattle.std.specs.Prelude.{◌≡◌, ℕ, ◌<◌, ◌≤◌, List, [], ◌∷◌, length, map, flat_map, Option, Some, None}
use Rattle.fts_types.specs.Row.{Row, row_of}
use Rattle.fts_commits.specs.Commit.{with_key}
use Rattle.fts_types.specs.declared.row.Row.{Row as HeldRow}

-- slots: document ids, each with its row, or with none where it was taken out
abbrev pub Slots : Type 0
Slots = List (ℕ × Option HeldRow)

-- the row in a slot, if there is one
abbrev pub row_in : Option HeldRow → List Row
row_in None = []
row_in (Some row) = row_of row ∷ []

-- the rows in the slots
abbrev pub rows_in : Slots → List Row
rows_in slots = flat_map (λ slot. row_in slot.1) slots

-- the row in a slot has its id
abbrev pub IsAt : ℕ → Option HeldRow → Type 0
IsAt doc None = Unit {0}
IsAt doc (Some row) = row.doc ≡ doc

-- the ids of the slots ascend, the first above `low`, and none above `high`; each row stands in the slot of its id
abbrev pub AreSlots : ℕ → ℕ → Slots → Type 0
AreSlots low high [] = low ≤ high
AreSlots low high (slot ∷ slots) = (low < slot.0) × IsAt slot.0 slot.1 × AreSlots slot.0 high slots

-- an id, or none
abbrev pub id_list : Option ℕ → List ℕ
id_list None = []
id_list (Some doc) = doc ∷ []

-- each key leads to the id of its row, which has it alone, or to none where no row has it
abbrev pub LeadToRows : (ℕ → Option ℕ) → List Row → Type 0
LeadToRows doc_of rows = (key : ℕ) → map (λ row. row.doc) (with_key key rows) ≡ id_list (doc_of key)

-- how the rows of a table are kept: by ascending ids, and each key leads to its row
pub record AreKept (doc_of : ℕ → Option ℕ) (count largest : ℕ) (slots : Slots) : Type 0 where
  pub places : AreSlots 0 largest slots
  pub keys : LeadToRows doc_of (rows_in slots)
  pub counted : count ≡ length (rows_in slots)
