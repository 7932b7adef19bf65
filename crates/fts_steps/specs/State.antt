-- A database, and the two files that are its logs.
use Rattle.std.specs.Prelude.{ℕ, List, [], ◌∷◌, ◌++◌, length, map, codes, All}
use Rattle.fts_disk.specs.Device.{Files}
use Rattle.fts_types.specs.declared.settings.Settings.{Settings}
use Rattle.fts_types.specs.Settings.{AreSettings}
use Rattle.fts_types.specs.Rules.{rules_of}
use Rattle.fts_commits.specs.Commit.{Commit, no_rows, replay, AreAccepted}
use Rattle.fts_commits.specs.Turn.{Turn, turns_from}
use Rattle.fts_entries.specs.Entry.{IndexEntry, IndexState, index_of}
use Rattle.fts_entries.specs.Coming.{AreEntries}
use Rattle.fts_entries.specs.Exact.{IsExact}
use Rattle.fts_log.specs.Record.{IsLog, IsBegun, log_end}
use Rattle.fts_rowcodec.specs.Payload.{settings_payload, commit_payload, IsWritten}
use Rattle.fts_ixcodec.specs.Payload.{entry_payload, IsEntry}

-- a database: its settings, its commits and the entries of its index, in their order
pub record State : Type 0 where
  pub settings : Settings
  pub commits : List Commit
  pub entries : List IndexEntry

-- the rows log begins with these bytes
abbrev pub rows_magic : List ℕ
rows_magic = codes "FTSROWS1"

-- and the index log with these
abbrev pub index_magic : List ℕ
index_magic = codes "FTSINDX1"

-- the payloads of the rows log: the settings, and each commit
abbrev pub payloads : State → List (List ℕ)
payloads state = settings_payload state.settings ∷ map commit_payload state.commits

-- and those of the index log: each entry
abbrev pub index_payloads : State → List (List ℕ)
index_payloads state = map entry_payload state.entries

-- the database with commits behind its own
abbrev pub with_commits : State → List Commit → State
with_commits state commits = record {
  settings = state.settings;
  commits = state.commits ++ commits;
  entries = state.entries;
}

-- and with entries behind its own
abbrev pub with_entries : State → List IndexEntry → State
with_entries state entries = record {
  settings = state.settings;
  commits = state.commits;
  entries = state.entries ++ entries;
}

-- where the rows log would end after one more commit
abbrev pub end_after : State → Commit → ℕ
end_after state commit = log_end rows_magic (payloads state ++ commit_payload commit ∷ [])

-- and the index log after one more entry
abbrev pub index_end_after : State → IndexEntry → ℕ
index_end_after state entry = log_end index_magic (index_payloads state ++ entry_payload entry ∷ [])

-- what the commits do, as an index sees them
abbrev pub turns_of : State → List Turn
turns_of state = turns_from no_rows state.commits

-- the state of the index, as the entries leave it over the commits
abbrev pub index_state : State → IndexState
index_state state = index_of (turns_of state) state.entries

-- the settings and the commits can stand: each commit is accepted by the rows that those before it left
pub record IsSound (state : State) : Type 0 where
  pub settings : AreSettings state.settings
  pub written : All (IsWritten (length state.settings.columns)) state.commits
  pub accepted : AreAccepted no_rows state.commits

-- the entries can stand over the commits: each can be written, and come behind those before it
pub record HasEntries (state : State) : Type 0 where
  pub written : All (IsEntry (rules_of state.settings)) state.entries
  pub come : AreEntries (turns_of state) state.entries

-- what is not deleted of the index is what the rows have, and what its tables have of who is dead was born so. Each
-- step keeps it, and so it is of a database that was just created; of files that somebody else wrote nothing is known
abbrev pub IsRight : State → Type 0
IsRight state =
    IsExact (rules_of state.settings) (replay state.commits).list (turns_of state) (index_state state)

-- the file is the rows log of the database
pub record IsRows (state : State) (file : List ℕ) : Type 0 where
  pub sound : IsSound state
  pub log : IsLog rows_magic (payloads state) file

-- file 0 is the index log of the database; nodes may later stand in other files
pub record IsIndex (state : State) (files : Files) : Type 0 where
  pub sound : HasEntries state
  pub log : IsLog index_magic (index_payloads state) (files 0)

-- the file of the rows and the files of the index are the two logs of the database
pub record IsDatabase (state : State) (rows : List ℕ) (index : Files) : Type 0 where
  pub of_rows : IsRows state rows
  pub of_index : IsIndex state index

-- a database was created, as its rows log says: the gate behind the magic is open
abbrev pub IsCreated : List ℕ → Type 0
IsCreated file = IsBegun file

-- a database that was just created
abbrev pub created_with : Settings → State
created_with settings = record { settings = settings; commits = []; entries = [] }
