-- Where the bytes of the two logs are at fault.
use Rattle.std.specs.Prelude.{◌≡◌, ◌≢◌, ◌⊎◌, ℕ, ◌+◌, ◌<◌, List, [], ◌++◌, length, map, take, All}
use Rattle.fts_entries.specs.Entry.{IndexEntry}
use Rattle.fts_log.specs.Record.{Fits, IsBrokenBehind, front, gate_at}
use Rattle.fts_ixcodec.specs.Payload.{entry_payload}
use Rattle.fts_steps.specs.State.{State, payloads, rows_magic, index_magic, IsSound, HasEntries}

-- the record at this place is wrong: its payload, behind those before it, is none of which `Are` holds
pub record IsWrongAt (magic : List ℕ) (Are : List (List ℕ) → Type 0) (at : ℕ) (file : List ℕ) : Type 0 where
  pub entries : List (List ℕ)
  pub rest : List ℕ
  pub fit : All Fits entries
  pub bytes : file ≡ front magic entries ++ rest
  pub k : ℕ
  pub within : k < length entries
  pub place : at ≡ gate_at magic entries k
  pub before : Are (take k entries)
  pub wrong : Are (take (k + 1) entries) → ⊥

-- at this place, behind records that are right, there is neither a closed gate nor a whole record
pub record IsTornAt (magic : List ℕ) (Are : List (List ℕ) → Type 0) (at : ℕ) (file : List ℕ) : Type 0 where
  pub entries : List (List ℕ)
  pub before : Are entries
  pub broken : IsBrokenBehind magic entries at file

-- the first place at which the file is no log of such payloads: 0 where the magic is wrong or missing, else the gate of
-- the first record that is wrong or not whole
abbrev pub IsFirstFault : List ℕ → (List (List ℕ) → Type 0) → ℕ → List ℕ → Type 0
IsFirstFault magic Are at file = ((at ≡ 0) × ((rest : List ℕ) → file ≢ magic ++ rest))
    ⊎ (IsWrongAt magic Are at file ⊎ IsTornAt magic Are at file)

-- the payloads are none, or those of a sound database
abbrev pub AreOfRows : List (List ℕ) → Type 0
AreOfRows entries = (entries ≡ []) ⊎ ((state : State) × IsSound state × (payloads state ≡ entries))

-- the payloads are those of entries that can stand over the commits of this database
pub record AreOfIndex (state : State) (entries : List (List ℕ)) : Type 0 where
  pub index : List IndexEntry
  pub sound : HasEntries (record state { entries = index })
  pub same : map entry_payload index ≡ entries

-- the first place at which the file is no rows log of a database
abbrev pub IsFaultAt : ℕ → List ℕ → Type 0
IsFaultAt at file = IsFirstFault rows_magic AreOfRows at file

-- the first place at which the file is no index log of this database
abbrev pub IsIndexFaultAt : State → ℕ → List ℕ → Type 0
IsIndexFaultAt state at file = IsFirstFault index_magic (AreOfIndex state) at file
