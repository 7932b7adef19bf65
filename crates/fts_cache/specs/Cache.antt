-- What contracts see of a cache.
use Rattle.std.specs.Prelude.{◌≡◌, ℕ, ◌+◌, ◌^◌, ◌<◌, ◌≤◌, List, [], ◌∷◌, length, filter, sum_by, nat_lt}
use Rattle.std.specs.Prelude.{Bool, false, if◌then◌else◌}
use Rattle.std.specs.List.{concat}
use Rattle.std.specs.Option.{option_map_or}
use Rattle.fts_ilist.specs.Spelling.{Posting}
use Rattle.fts_cache.specs.Document.{Document, document_size, bytes_of}
use Rattle.fts_cache.specs.Words.{Entries, queue_in, number_in, has_number, AreNumbersOf, FewIdle}

-- a document in the cache
pub record CachedDocument : Type 0 where
  pub id : ℕ
  pub size : ℕ

-- a cache, as its contracts speak of it by `documents`, `last` and the functions below
pub record CacheState : Type 0 where
  -- the documents, by ascending ids
  pub documents : List CachedDocument
  -- no document up to this id can come in
  pub last : ℕ
  -- for how many more documents there is room
  pub spare : ℕ
  -- the words, each by its number, with their queues
  pub words : Entries
  -- the numbers of the words of documents for which there is room
  pub promised : List (List ℕ)

-- the documents that have the word, by ascending ids, with their positions
abbrev pub postings_of : CacheState → List ℕ → List Posting
postings_of c word = (queue_in c.words word).postings

-- for how many bytes of documents there is room in the list of a word
abbrev pub room_of : CacheState → List ℕ → ℕ
room_of c word = (queue_in c.words word).room

-- the size of the cache: the sum of its documents' sizes
abbrev pub cache_size : CacheState → ℕ
cache_size c = sum_by (λ d. d.size) c.documents

-- at most half of the words that it holds have neither a document nor room for one
abbrev pub HoldsFewOthers : CacheState → Type 0
HoldsFewOthers c = FewIdle c.words

-- a document as the cache keeps it
abbrev pub cached : Document → CachedDocument
cached d = record { id = d.id; size = document_size d }

-- the documents behind an id
abbrev pub cached_behind : ℕ → List CachedDocument → List CachedDocument
cached_behind id ds = filter (λ d. nat_lt id d.id) ds

-- the same documents and postings; room isn't spoken of
pub record SameContents (old new : CacheState) : Type 0 where
  pub documents : new.documents ≡ old.documents
  pub postings : (w : List ℕ) → postings_of new w ≡ postings_of old w
  pub last : new.last ≡ old.last

-- whether room was promised for the word and not used
abbrev pub is_promised : CacheState → List ℕ → Bool
is_promised c word = option_map_or (λ n. has_number n (concat c.promised)) (number_in c.words word) false

-- the room of the word without what was promised and not used
abbrev pub room_left : CacheState → List ℕ → ℕ
room_left c word = if is_promised c word then 0 else room_of c word

-- the numbers that were promised begin with those of the words of these documents
abbrev pub AreNumbers : Entries → List Document → List (List ℕ) → Type 0
AreNumbers words [] numbers = Unit {0}
AreNumbers words (d ∷ ds) [] = ⊥
AreNumbers words (d ∷ ds) (n ∷ ns) = AreNumbersOf words d.words n × AreNumbers words ds ns

-- these documents can be added, one after another, without memory
pub record HasRoom (c : CacheState) (ds : List Document) : Type 0 where
  pub room : (w : List ℕ) → bytes_of w ds ≤ room_of c w
  pub numbers : AreNumbers c.words ds c.promised
  pub documents : length ds ≤ c.spare
  pub size : cache_size c + sum_by document_size ds < 2 ^ 64

-- documents with ascending ids, from above low up to last
abbrev pub Ids : ℕ → ℕ → List CachedDocument → Type 0
Ids low last [] = low ≤ last
Ids low last (d ∷ ds) = (low < d.id) × Ids d.id last ds

abbrev pub IdsAscend : List CachedDocument → Type 0
IdsAscend ds = (last : ℕ) × Ids 0 last ds

-- the first document, if any, is above doc
abbrev pub BeginsAbove : ℕ → List CachedDocument → Type 0
BeginsAbove doc [] = Unit {0}
BeginsAbove doc (d ∷ ds) = doc < d.id
