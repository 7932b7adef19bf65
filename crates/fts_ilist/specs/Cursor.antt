-- What contracts see of a cursor: the documents from the one at which it stands on.
use Rattle.std.specs.Prelude.{◌≡◌, ℕ, zero, suc, ◌^◌, ◌<◌, ◌≤◌, List, [], ◌∷◌, ◌++◌, Bool, true, filter, nat_le, length}
use Rattle.std.specs.Prelude.{drop, take}
use Rattle.fts_ilist.specs.Number.{number_bytes}
use Rattle.fts_ilist.specs.Spelling.{Posting, items_bytes, position_items, ArePositions}
use Rattle.fts_ilist.specs.Reading.{items_after, postings_of, postings_in, IsTail, IsKept}
use Rattle.fts_ilist.specs.Reading.State.{inside}

-- the documents that are not below an id
abbrev pub postings_from : ℕ → List Posting → List Posting
postings_from id ps = filter (λ p. nat_le id p.id) ps

-- the documents up to an id
abbrev pub postings_until : ℕ → List Posting → List Posting
postings_until id ps = filter (λ p. nat_le p.id id) ps

-- the positions of the first document, and none where there is none
abbrev pub first_positions : List Posting → List ℕ
first_positions [] = []
first_positions (p ∷ ps) = p.positions

-- the documents that bytes stand for from the first position of the document id on, and none where id is 0
unfoldable pub postings_at : ℕ → List ℕ → List Posting
postings_at zero bytes = []
postings_at (suc n) bytes = postings_of (inside (suc n) 0) [] (items_after 0 bytes)

-- the bytes begin with the positions of the document id and its end, and spell the documents behind it
pub record IsInside (id : ℕ) (bytes : List ℕ) : Type 0 where
  pub limit : id < 2 ^ 63
  pub positions : List ℕ
  pub are_positions : ArePositions positions
  pub behind : List ℕ
  pub body : bytes ≡ items_bytes (position_items 0 positions) ++ 0 ∷ behind
  pub tail : IsTail id behind

-- the fields of a cursor
pub record IsCursor (id : ℕ) (bytes : List ℕ) : Type 0 where
  pub within : 0 < id → IsInside id bytes
  pub ended : id ≡ 0 → bytes ≡ []

-- a test whether the first document is below an id: on true one more leaves, on false all stay
pub record IsBelow (id : ℕ) (ps : List Posting) (below : Bool) : Type 0 where
  pub some : below ≡ true → 0 < length ps
  pub leaves : below ≡ true → postings_from id (drop 1 ps) ≡ postings_from id ps
  pub stay : (below ≡ true → ⊥) → postings_from id ps ≡ ps

-- the documents up to doc of a cursor: behind the first id so many bytes spell them, with their last id and number
pub record IsSpan (id : ℕ) (bytes : List ℕ) (doc len last count : ℕ) : Type 0 where
  pub within : len ≤ length bytes
  pub kept : IsKept id last count (number_bytes id ++ take len bytes)
  pub same : postings_in 0 (number_bytes id ++ take len bytes) ≡ postings_until doc (postings_at id bytes)
