-- What contracts see of a queue of documents.
use Rattle.std.specs.Prelude.{◌≡◌, ℕ, ◌+◌, ◌*◌, ◌<◌, ◌≤◌, List, filter, nat_lt, length, drop}
use Rattle.fts_ilist.specs.Spelling.{Posting, id_at_end, first_id}
use Rattle.fts_ilist.specs.Reading.{postings_in, IsTail}
use Rattle.fts_ilist.specs.Progress.{ReadsDocument}

pub record Queue : Type 0 where
  -- the documents that are in it
  pub postings : List Posting
  -- a new document has to be above this id
  pub last : ℕ
  -- how many bytes of documents can be put in without memory
  pub room : ℕ

-- how many bytes a document with so many positions takes at most: nine for its id, three a position, one for its end
abbrev pub bytes_for : ℕ → ℕ
bytes_for count = 3 * count + 10

-- the documents behind an id
abbrev pub postings_behind : ℕ → List Posting → List Posting
postings_behind id ps = filter (λ p. nat_lt id p.id) ps

-- a place in bytes that spell documents from there on, behind the id before
pub record StandsAt (bytes : List ℕ) (at before : ℕ) : Type 0 where
  pub within : at ≤ length bytes
  pub tail : IsTail before (drop at bytes)

-- the documents up to doc begin with one, which has this id and ends at this place
pub record Passes (rest : List ℕ) (last doc end id : ℕ) : Type 0 where
  pub start : ℕ
  pub reads : ReadsDocument rest 0 last id start end
  pub up_to : id ≤ doc
  pub order : 0 < end
  pub within : end ≤ length rest
  pub tail : IsTail id (drop end rest)
  pub same : postings_behind doc (postings_in last rest) ≡ postings_behind doc (postings_in id (drop end rest))
  pub end_is : id_at_end last (postings_in last rest) ≡ id_at_end id (postings_in id (drop end rest))

-- the fields of a queue
pub record IsQueue (bytes : List ℕ) (capacity start before first last room : ℕ) : Type 0 where
  pub stands : StandsAt bytes start before
  pub first_is : first ≡ first_id (postings_in before (drop start bytes))
  pub last_is : last ≡ id_at_end before (postings_in before (drop start bytes))
  pub spare : length bytes + room ≤ capacity
  -- at most half of the bytes are those of documents that left
  pub lean : 2 * start ≤ length bytes

-- how many bytes a queue holds, where its documents take so many as a list of their own. The first id may be spelled
-- behind one that left, in eight bytes fewer
pub record HoldsBytes (size held : ℕ) : Type 0 where
  pub least : size ≤ held + 8
  pub most : held ≤ 2 * (size + 8)
