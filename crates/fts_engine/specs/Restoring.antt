-- What is kept while the entries of an index log are read.
use Rattle.std.specs.Prelude.{◌≡◌, ℕ, List}
use Rattle.fts_types.specs.declared.settings.Settings.{Settings}
use Rattle.fts_commits.specs.Commit.{Commit, Rows, no_rows}
use Rattle.fts_commits.specs.Turn.{turns_from}
use Rattle.fts_rows.specs.Rows.{rows_of}
use Rattle.fts_entries.specs.Entry.{Batch, IndexState, sealed, after_entry}
use Rattle.fts_entries.specs.Coming.{CanSeal}
use Rattle.fts_engine.specs.declared.restoring.Restoring.{Restoring}
use Rattle.fts_engine.specs.Covered.{Covering}

-- the settings, the rows, and how many commits were read
abbrev pub restoring_settings : Restoring → Settings
restoring_settings r = r.settings

abbrev pub restoring_rows : Restoring → Rows
restoring_rows r = rows_of r.rows

abbrev pub restoring_commits : Restoring → ℕ
restoring_commits r = r.commits

abbrev pub IsCovering : Restoring → List Commit → IndexState → Type 0
IsCovering r commits s = Covering r.settings (rows_of r.rows) r.index r.covered r.commits commits s

-- a batch could come, and it stands now in the tables: all commits are flushed
pub record IsInstalled (commits : List Commit) (s : IndexState) (through synced : ℕ) (batch : Batch) (r : Restoring)
    : Type 0 where
  pub can : CanSeal (turns_from no_rows commits) s through synced batch
  pub covers : IsCovering r commits (after_entry (turns_from no_rows commits) s (sealed through synced batch))

-- no commit is noted that is not flushed
abbrev pub IsFlushed : Restoring → Type 0
IsFlushed r = r.covered.count ≡ 0
