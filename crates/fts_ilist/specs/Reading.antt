-- The value that bytes stand for: the view of lists and of the iterators over them.
use Rattle.std.specs.Prelude.{◌≡◌, ℕ, ◌+◌, ◌-◌, ◌*◌, ◌^◌, ◌<◌, ◌≤◌, List, [], ◌∷◌, ◌++◌, get_or, length, nat_lt, ◌==◌}
use Rattle.std.specs.Prelude.{if◌then◌else◌}
use Rattle.fts_ilist.specs.Spelling.{Posting, Item, items_bytes, position_items, postings_items, list_bytes}
use Rattle.fts_ilist.specs.Spelling.{PositionsFrom, ArePositions, PostingsAfter, ArePostings, last_id, first_id}
use Rattle.fts_ilist.specs.Spelling.Item.{increase, document_end}

-- the items of bytes, where the groups before them have the value v
unfoldable pub items_after : ℕ → List ℕ → List Item
items_after v [] = []
items_after v (b ∷ bs) =
    if nat_lt b 128
    then (if v + b == 0 then document_end ∷ items_after 0 bs else items_after (v * 128 + b) bs)
    else increase (v * 128 + (b - 128)) ∷ items_after 0 bs

-- where a reader of items stands: between documents, behind the id last;
-- or inside the document id, where next is the last position + 1, or 0 before the first
pub data State : Type 0 where
  between : ℕ → State
  inside : ℕ → ℕ → State

-- the documents that items stand for, where the positions ps of the first were read before
unfoldable pub postings_of : State → List ℕ → List Item → List Posting
postings_of s ps [] = []
postings_of (between last) ps (increase n ∷ items) = postings_of (inside (last + n) 0) [] items
postings_of (between last) ps (document_end ∷ items) = []
postings_of (inside id next) ps (increase n ∷ items) = postings_of (inside id (next + n)) (ps ++ (next + n - 1) ∷ [])
    items
postings_of (inside id next) ps (document_end ∷ items) = record { id = id; positions = ps } ∷ postings_of (between id)
    [] items

-- the documents that bytes stand for, behind the id last
abbrev pub postings_in : ℕ → List ℕ → List Posting
postings_in last bytes = postings_of (between last) [] (items_after 0 bytes)

-- the positions that items stand for, where next is the last position + 1
unfoldable pub positions_of : ℕ → List Item → List ℕ
positions_of next [] = []
positions_of next (increase n ∷ items) = (next + n - 1) ∷ positions_of (next + n) items
positions_of next (document_end ∷ items) = []

-- the positions that bytes stand for
abbrev pub positions_in : ℕ → List ℕ → List ℕ
positions_in next bytes = positions_of next (items_after 0 bytes)

-- bytes that the view gives back: they spell documents behind the id last
pub record IsTail (last : ℕ) (bytes : List ℕ) : Type 0 where
  pub limit : last < 2 ^ 63
  pub after : PostingsAfter last (postings_in last bytes)
  pub spelled : bytes ≡ items_bytes (postings_items last (postings_in last bytes))

-- bytes that the view gives back: they spell positions behind next, up to their document's end or to the last byte
pub record IsPositionsTail (next : ℕ) (bytes : List ℕ) : Type 0 where
  pub limit : next ≤ 131072
  pub from : PositionsFrom next (positions_in next bytes)
  pub behind : List ℕ
  pub spelled : bytes ≡ items_bytes (position_items next (positions_in next bytes)) ++ behind
  pub ended : get_or behind 0 0 ≡ 0

-- an id and bytes that spell the positions of a document
pub record IsDocument (id : ℕ) (bytes : List ℕ) : Type 0 where
  pub positive : 0 < id
  pub limit : id < 2 ^ 63
  pub are_positions : ArePositions (positions_in 0 bytes)
  pub spelled : bytes ≡ items_bytes (position_items 0 (positions_in 0 bytes))

-- bytes that spell a list, and the id of its last document
pub record IsList (last : ℕ) (bytes : List ℕ) : Type 0 where
  pub are : ArePostings (postings_in 0 bytes)
  pub spelled : bytes ≡ list_bytes (postings_in 0 bytes)
  pub last_is : last ≡ last_id (postings_in 0 bytes)

-- the fields of a list: its bytes, the ids of its first and last document, and its number of documents
pub record IsKept (first last count : ℕ) (bytes : List ℕ) : Type 0 where
  pub list : IsList last bytes
  pub first_is : first ≡ first_id (postings_in 0 bytes)
  pub count_is : count ≡ length (postings_in 0 bytes)
