-- Position lists: what they are, and the one spelling of each.
use Rattle.std.specs.Prelude.{◌≡◌, ℕ, ◌+◌, ◌-◌, ◌^◌, ◌<◌, ◌≤◌, List, [], ◌∷◌, ◌++◌, length}
use Rattle.std.specs.List.{flat_map}
use Rattle.fts_ilist.specs.Number.{number_bytes}

-- a document and the places at which it has the word
pub record Posting : Type 0 where
  pub id : ℕ
  pub positions : List ℕ

-- a list is spelled by items: a number, which is an increase, or the byte 00, which ends a document
pub data Item : Type 0 where
  increase : ℕ → Item
  document_end : Item

abbrev pub item_bytes : Item → List ℕ
item_bytes (increase n) = number_bytes n
item_bytes document_end = 0 ∷ []

abbrev pub items_bytes : List Item → List ℕ
items_bytes items = flat_map item_bytes items

-- for each position the increase of position + 1 over the one before, which is last at first
abbrev pub position_items : ℕ → List ℕ → List Item
position_items last [] = []
position_items last (p ∷ ps) = increase (p + 1 - last) ∷ position_items (p + 1) ps

-- a document behind the id last: the increase of the id, the positions, the end
abbrev pub posting_items : ℕ → Posting → List Item
posting_items last p = increase (p.id - last) ∷ (position_items 0 p.positions ++ document_end ∷ [])

-- each document's items, behind the id last
abbrev pub postings_items : ℕ → List Posting → List Item
postings_items last [] = []
postings_items last (p ∷ ps) = posting_items last p ++ postings_items p.id ps

-- the spelling of a list
abbrev pub list_bytes : List Posting → List ℕ
list_bytes ps = items_bytes (postings_items 0 ps)

-- the last position + 1, and next where there is none
abbrev pub next_at_end : ℕ → List ℕ → ℕ
next_at_end next [] = next
next_at_end next (p ∷ ps) = next_at_end (p + 1) ps

-- positions from next on that ascend, up to 131071
abbrev pub PositionsFrom : ℕ → List ℕ → Type 0
PositionsFrom next [] = Unit {0}
PositionsFrom next (p ∷ ps) = (next ≤ p) × (p ≤ 131071) × PositionsFrom (p + 1) ps

-- positions of one document: at least one, ascending, up to 131071
abbrev pub ArePositions : List ℕ → Type 0
ArePositions ps = (0 < length ps) × PositionsFrom 0 ps

-- documents whose ids ascend from above last to 2^63 - 1, each with positions
abbrev pub PostingsAfter : ℕ → List Posting → Type 0
PostingsAfter last [] = Unit {0}
PostingsAfter last (p ∷ ps) = (last < p.id) × (p.id < 2 ^ 63) × ArePositions p.positions × PostingsAfter p.id ps

-- what has a spelling: documents by ascending ids from 1 to 2^63 - 1, each with positions
abbrev pub ArePostings : List Posting → Type 0
ArePostings ps = PostingsAfter 0 ps

-- the id of the last document, and before where there is none
abbrev pub id_at_end : ℕ → List Posting → ℕ
id_at_end before [] = before
id_at_end before (p ∷ ps) = id_at_end p.id ps

-- the id of the last document of a list, and 0 where there is none
abbrev pub last_id : List Posting → ℕ
last_id ps = id_at_end 0 ps

-- a list has a first document, with this id
abbrev pub HasFirstId : List Posting → ℕ → Type 0
HasFirstId [] id = ⊥
HasFirstId (p ∷ ps) id = p.id ≡ id

-- the id of the first document of a list, and 0 where there is none
abbrev pub first_id : List Posting → ℕ
first_id [] = 0
first_id (p ∷ ps) = p.id
