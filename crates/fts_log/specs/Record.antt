-- The bytes of a log: a magic, records, a closed gate, and any rest.
use Rattle.std.specs.Prelude.{◌≡◌, ◌≢◌, ◌⊎◌, ℕ, ◌+◌, ◌^◌, ◌<◌, List, [], ◌∷◌, ◌++◌, length, take, slice_index, All}
use Rattle.std.specs.Int.{w32, to_be_bytes}

-- an entry's length fits the four bytes that say it
abbrev pub Fits : List ℕ → Type 0
Fits payload = length payload < 2 ^ 32

-- an open gate, the length, big end first, and the payload
abbrev pub record_of : List ℕ → List ℕ
record_of payload = 1 ∷ (to_be_bytes w32 (length payload) ++ payload)

-- the records of these entries, one after another
abbrev pub records : List (List ℕ) → List ℕ
records [] = []
records (payload ∷ entries) = record_of payload ++ records entries

-- what stands before the closed gate of a log of these entries
abbrev pub front : List ℕ → List (List ℕ) → List ℕ
front magic entries = magic ++ records entries

-- the place of the gate of entry k: behind the records of those before it
abbrev pub gate_at : List ℕ → List (List ℕ) → ℕ → ℕ
gate_at magic entries k = length (front magic (take k entries))

-- the place behind the closed gate
abbrev pub log_end : List ℕ → List (List ℕ) → ℕ
log_end magic entries = length (front magic entries) + 1

-- the gate behind a magic of 8 bytes is open: a record follows
abbrev pub IsBegun : List ℕ → Type 0
IsBegun file = (8 < length file) × (slice_index file 8 ≡ 1)

-- the places where the records of these entries end, if the first begins at this place
abbrev pub ends_from : ℕ → List (List ℕ) → List ℕ
ends_from start [] = []
ends_from start (payload ∷ entries) = (start + length (record_of payload)) ∷ ends_from
    (start + length (record_of payload)) entries

-- the bytes are a log of these entries: the magic, their records, a closed gate, and any rest
pub record IsLog (magic : List ℕ) (entries : List (List ℕ)) (file : List ℕ) : Type 0 where
  pub gate : ℕ
  pub rest : List ℕ
  pub closed : gate ≢ 1
  pub bytes : file ≡ front magic entries ++ gate ∷ rest
  pub fit : All Fits entries

-- the bytes are a log of the entries, or of these and one more
abbrev pub IsLogOfEither : List ℕ → List (List ℕ) → List ℕ → List ℕ → Type 0
IsLogOfEither magic entries payload file = IsLog magic entries file ⊎ IsLog magic (entries ++ payload ∷ []) file

-- neither a closed gate nor a whole record stands at the head of the bytes
pub record IsBroken (bytes : List ℕ) : Type 0 where
  pub not_closed : (gate : ℕ) (rest : List ℕ) → bytes ≡ gate ∷ rest → gate ≡ 1
  pub not_whole : (payload rest : List ℕ) → Fits payload → bytes ≢ record_of payload ++ rest

-- behind the magic and the records of these entries, at this place, there is neither a closed gate nor a whole record
pub record IsBrokenBehind (magic : List ℕ) (entries : List (List ℕ)) (at : ℕ) (file : List ℕ) : Type 0 where
  pub rest : List ℕ
  pub fit : All Fits entries
  pub bytes : file ≡ front magic entries ++ rest
  pub place : at ≡ length (front magic entries)
  pub broken : IsBroken rest

-- behind the magic and some whole records there is neither a closed gate nor a whole record
abbrev pub IsBrokenAt : List ℕ → ℕ → List ℕ → Type 0
IsBrokenAt magic at file = (entries : List (List ℕ)) × IsBrokenBehind magic entries at file

-- the bytes are no log: the magic is wrong or missing, and the place is 0, or they are broken at the place
abbrev pub IsDamagedAt : List ℕ → ℕ → List ℕ → Type 0
IsDamagedAt magic at file = ((at ≡ 0) × ((rest : List ℕ) → file ≢ magic ++ rest)) ⊎ IsBrokenAt magic at file
