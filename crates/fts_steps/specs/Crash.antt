-- What a crash leaves of a database.
use Rattle.std.specs.Prelude.{◌≡◌, ◌⊎◌, List, ◌++◌}
use Rattle.fts_disk.specs.Device.{Files}
use Rattle.fts_disk.specs.Crash.{Images}
use Rattle.fts_commits.specs.Commit.{Commit}
use Rattle.fts_entries.specs.Entry.{IndexEntry}
use Rattle.fts_steps.specs.State.{State, with_commits, with_entries, IsRows, IsIndex}
use Rattle.fts_steps.specs.Running.{Running}

-- the rows log is that of the state, or of the state and the commits in doubt
abbrev pub MayHold : State → List Commit → Images
MayHold state doubt c = IsRows state (c 0) ⊎ IsRows (with_commits state doubt) (c 0)

-- the index log is that of the state, or of the state and the entries in doubt
abbrev pub MayHoldIndex : State → List IndexEntry → Images
MayHoldIndex state loose c = IsIndex state c ⊎ IsIndex (with_entries state loose) c

-- the rows log is that of the start with a front of what was added up to now, the commit in doubt as the last
pub record IsBetween (start now : Running) (c : Files) : Type 0 where
  pub front : List Commit
  pub rest : List Commit
  pub added : now.state.commits ++ now.doubt ≡ start.state.commits ++ (front ++ rest)
  pub rows : IsRows (with_commits start.state front) (c 0)

-- the index log has the entries of the start and a front of those that were added up to now, the one in doubt as the
-- last
pub record IsIndexBetween (start now : Running) (c : Files) : Type 0 where
  pub front : List IndexEntry
  pub rest : List IndexEntry
  pub added : now.state.entries ++ now.loose ≡ start.state.entries ++ (front ++ rest)
  pub index : IsIndex (record now.state { entries = start.state.entries ++ front }) c
