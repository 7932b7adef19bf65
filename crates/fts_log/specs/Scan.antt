-- What stands at a place of a file.
use Rattle.std.specs.Prelude.{◌≡◌, ◌≢◌, ℕ, ◌+◌, Bool, true, false, List, ◌∷◌, ◌++◌, length, take, drop, All}
use Rattle.fts_log.specs.Record.{Fits, record_of, IsBroken, front, ends_from}
use Rattle.fts_log.specs.declared.place.Place.{Place}
use Rattle.fts_log.specs.declared.place.Place.TheVariants.{Closed, Whole, Broken}
use Rattle.fts_log.specs.declared.found.Found.{Found}
use Rattle.fts_log.specs.declared.window.Window.{Window}

-- a closed gate, a whole record and where it ends, or neither
abbrev pub PlaceIs : List ℕ → ℕ → Place → Type 0
PlaceIs file at Closed = (gate : ℕ) × (rest : List ℕ) × (gate ≢ 1) × (drop at file ≡ gate ∷ rest)
PlaceIs file at (Whole next) = (payload : List ℕ) × Fits payload × (drop at file ≡ record_of payload ++ drop next file)
    × (next ≡ at + length (record_of payload))
PlaceIs file at Broken = IsBroken (drop at file)

-- the window holds the file's bytes from its start on
abbrev pub Shows : Window → List ℕ → Type 0
Shows window file = window.bytes.items ≡ take (length window.bytes.items) (drop window.start file)

-- how records end: with a closed gate at the head of the rest, or with neither that nor a whole record
abbrev pub EndsAs : Bool → List ℕ → Type 0
EndsAs true rest = (gate : ℕ) × (more : List ℕ) × (gate ≢ 1) × (rest ≡ gate ∷ more)
EndsAs false rest = IsBroken rest

-- the file is the magic, the records of these entries, and a rest, at the places that were found
pub record IsFoundIn (magic : List ℕ) (entries : List (List ℕ)) (file : List ℕ) (found : Found) : Type 0 where
  pub rest : List ℕ
  pub bytes : file ≡ front magic entries ++ rest
  pub fit : All Fits entries
  pub «end» : EndsAs found.is_whole rest
  pub gate : found.gate ≡ length (front magic entries)
  pub ends : found.ends.items ≡ ends_from (length magic) entries
