-- What is kept in memory of a database.
use Rattle.std.specs.Prelude.{List}
use Rattle.fts_types.specs.declared.limits.Limits.{Limits}
use Rattle.fts_types.specs.declared.settings.Settings.{Settings}
use Rattle.fts_commits.specs.Commit.{Commit, Rows}
use Rattle.fts_rows.specs.Rows.{rows_of, limits_of}
use Rattle.fts_entries.specs.Entry.{IndexState}
use Rattle.fts_engine.specs.declared.kept.Kept.{Kept}
use Rattle.fts_engine.specs.Indexed.{IsIndexOf}

-- the settings
abbrev pub kept_settings : Kept → Settings
kept_settings kept = kept.settings

-- the limits of commits
abbrev pub kept_limits : Kept → Limits
kept_limits kept = limits_of kept.rows

-- the rows that are kept
abbrev pub kept_rows : Kept → Rows
kept_rows kept = rows_of kept.rows

-- the rows that are kept are those of these commits, and the index stands over these for this state
abbrev pub IsIndexed : Kept → List Commit → IndexState → Type 0
IsIndexed kept commits s = IsIndexOf kept.settings (rows_of kept.rows) kept.index commits s

-- whatever commits and state the index stood for, it stands for them still
abbrev pub StaysIndexed : Kept → Kept → Type 0
StaysIndexed old new = (commits : List Commit) (s : IndexState) → IsIndexed old commits s → IsIndexed new commits s
