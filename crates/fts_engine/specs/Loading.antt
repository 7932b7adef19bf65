-- What was read of the two logs of a database.
use Rattle.std.specs.Prelude.{◌≡◌, ◌≢◌, ◌⊎◌, ℕ, ◌+◌, ◌<◌, List, [], ◌∷◌, ◌++◌, length, take, IsTrue}
use Rattle.fts_disk.specs.declared.disk.Disk.{Ghosts}
use Rattle.fts_log.specs.Record.{gate_at}
use Rattle.fts_log.specs.Records.{Hold, records_magic}
use Rattle.fts_log.specs.declared.records.Records.{Records}
use Rattle.fts_types.specs.declared.settings.Settings.{Settings}
use Rattle.fts_types.specs.Settings.{AreSettings}
use Rattle.fts_types.specs.Limits.{standard_limits}
use Rattle.fts_commits.specs.Commit.{Commit, Rows, replay}
use Rattle.fts_entries.specs.Entry.{IndexEntry, IndexState}
use Rattle.fts_entries.specs.Coming.{CanCome}
use Rattle.fts_rowcodec.specs.Payload.{settings_payload, commit_payload, IsWritten}
use Rattle.fts_ixcodec.specs.Payload.{entry_payload}
use Rattle.fts_steps.specs.State.{State, payloads, index_payloads, turns_of, index_state, IsSound, HasEntries}
use Rattle.fts_steps.specs.Fault.{AreOfRows}
use Rattle.fts_engine.specs.Reading.{IsWrongPayload}
use Rattle.fts_engine.specs.declared.kept.Kept.{Kept}
use Rattle.fts_engine.specs.declared.restoring.Restoring.{Restoring}
use Rattle.fts_engine.specs.Kept.{kept_settings, kept_rows, kept_limits, IsIndexed}
use Rattle.fts_engine.specs.Restoring.{restoring_settings, restoring_rows, restoring_commits, IsCovering}

-- the first payload of a log is that of these settings
pub record BeginsWith (settings : Settings) (all : List (List ℕ)) : Type 0 where
  pub right : AreSettings settings
  pub first : settings_payload settings ∷ [] ≡ take 1 all

-- the first k payloads of a rows log are those of a sound database, with these settings and these rows
pub record AreLoaded (all : List (List ℕ)) (k : ℕ) (settings : Settings) (rows : Rows) : Type 0 where
  pub state : State
  pub sound : IsSound state
  pub same : state.settings ≡ settings
  pub loaded : payloads state ≡ take k all
  pub count : length state.commits + 1 ≡ k
  pub kept : rows ≡ replay state.commits

-- the commits that were read stand in the rows log behind the settings, and the first j payloads of the index log are
-- those of entries over them
pub record IsRestored (all read : List (List ℕ)) (j : ℕ) (r : Restoring) : Type 0 where
  pub of_rows : AreLoaded all (restoring_commits r + 1) (restoring_settings r) (restoring_rows r)
  pub entries : HasEntries of_rows.state
  pub taken : index_payloads of_rows.state ≡ take j read
  pub covers : IsCovering r of_rows.state.commits (index_state of_rows.state)

-- so it is of the rows log alone, whatever the index log has
abbrev pub IsRestoredOver : List (List ℕ) → Restoring → Type 0
IsRestoredOver all r = (read : List (List ℕ)) × (j : ℕ) × IsRestored all read j r

-- and it is so still
abbrev pub StaysRestored : {D : Type 0} {disk : Ghosts D} → Records D disk → Restoring → Restoring → Type 0
StaysRestored {D} {disk} rows old new = IsTrue disk.tells → (all : List (List ℕ)) → Hold all rows
    → IsRestoredOver all old → IsRestoredOver all new

-- the same entries were read, and perhaps more commits
pub record StillRestored (all read : List (List ℕ)) (j : ℕ) {old : Restoring} (was : IsRestored all read j old)
    (r : Restoring) : Type 0 where
  pub is : IsRestored all read j r
  pub state : index_state is.of_rows.state ≡ index_state was.of_rows.state

-- the payload is no commit's, or longer than one can be
abbrev pub IsNoCommit : ℕ → List ℕ → Type 0
IsNoCommit columns payload = (70000000 < length payload)
    ⊎ ((commit : Commit) → IsWritten columns commit → payload ≢ commit_payload commit)

-- the first k payloads of the rows log and all of the index log were read: what is kept is a database's
pub record IsLoaded (all : List (List ℕ)) (k : ℕ) (read : List (List ℕ)) (kept : Kept) : Type 0 where
  pub of_rows : AreLoaded all k (kept_settings kept) (kept_rows kept)
  pub limits : kept_limits kept ≡ standard_limits
  pub entries : HasEntries of_rows.state
  pub taken : index_payloads of_rows.state ≡ read
  pub index : IsIndexed kept of_rows.state.commits (index_state of_rows.state)

-- more commits were read of the rows log, of whose words none were made
abbrev pub CoversMore : {D : Type 0} {disk : Ghosts D} → Records D disk → Restoring → Restoring → Type 0
CoversMore {D} {disk} rows old new = IsTrue disk.tells → (all read : List (List ℕ)) (j : ℕ) → Hold all rows
    → (was : IsRestored all read j old) → StillRestored all read j was new

-- no sound database has these payloads in its rows log
abbrev pub AreNoRows : List (List ℕ) → Type 0
AreNoRows all = (state : State) → IsSound state → payloads state ≡ all → ⊥

-- payload k of the rows log, whose gate stands at this place, is the first at fault: it is no sound database's, and
-- those before it are
pub record IsWrongEntry (magic : List ℕ) (all : List (List ℕ)) (at : ℕ) : Type 0 where
  pub k : ℕ
  pub within : k < length all
  pub place : at ≡ gate_at magic all k
  pub before : AreOfRows (take k all)
  pub wrong : AreNoRows (take (k + 1) all)
  pub none : AreNoRows all

-- of the rows log, of which some commits were read, this place is the first at fault
abbrev pub IsWrongOver : {D : Type 0} {disk : Ghosts D} → Records D disk → Restoring → ℕ → Type 0
IsWrongOver {D} {disk} rows restoring at = IsTrue disk.tells → (all read : List (List ℕ)) (j : ℕ) → Hold all rows
    → IsRestored all read j restoring → IsWrongEntry (records_magic rows) all at

-- the payloads are those of a sound database's rows log
pub record AreSound (all : List (List ℕ)) : Type 0 where
  pub state : State
  pub sound : IsSound state
  pub same : payloads state ≡ all

-- an entry can't come over the commits of a database with these payloads
abbrev pub NoneCanCome : List (List ℕ) → IndexState → IndexEntry → Type 0
NoneCanCome all s entry = (state : State) → IsSound state → payloads state ≡ all → CanCome (turns_of state) s entry → ⊥

-- the next entry of the index log was installed
abbrev pub InstallsEntry : {D : Type 0} {disk : Ghosts D} → Records D disk → IndexEntry → Restoring → Restoring → Type 0
InstallsEntry {D} {disk} rows entry old new = IsTrue disk.tells → (all read : List (List ℕ)) (j : ℕ) → Hold all rows
    → IsRestored all read j old → take (j + 1) read ≡ take j read ++ entry_payload entry ∷ []
    → IsRestored all read (j + 1) new

-- an entry can't come behind those that were read, and none was installed
abbrev pub RefusesEntry : {D : Type 0} {disk : Ghosts D} → Records D disk → IndexEntry → Restoring → Restoring → Type 0
RefusesEntry {D} {disk} rows entry old new = IsTrue disk.tells → (all read : List (List ℕ)) (j : ℕ) → Hold all rows
    → (was : IsRestored all read j old)
    → IsRestored all read j new × NoneCanCome all (index_state was.of_rows.state) entry

-- payload j of the index log, whose gate stands at this place, is the first at fault
pub record IsWrongAmong (magic : List ℕ) (all read : List (List ℕ)) (at : ℕ) : Type 0 where
  pub j : ℕ
  pub within : j < length read
  pub place : at ≡ gate_at magic read j
  pub is : IsWrongPayload all read j
