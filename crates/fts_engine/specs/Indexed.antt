-- That an index in memory stands for commits.
use Rattle.std.specs.Prelude.{◌≡◌, List, fold}
use Rattle.fts_types.specs.declared.settings.Settings.{Settings}
use Rattle.fts_types.specs.Rules.{rules_of}
use Rattle.fts_commits.specs.Commit.{Commit, Rows, no_rows, replay}
use Rattle.fts_commits.specs.Turn.{RowsAscend, rows_by, turns_from}
use Rattle.fts_entries.specs.Entry.{IndexState}
use Rattle.fts_entries.specs.Exact.{FitsTurns}
use Rattle.fts_index.specs.declared.index.Index.{Index}
use Rattle.fts_index.specs.Stands.{StandsFor, AreCommits}

-- the rows are those of these commits, and the index stands over them for this state, which fits them. It says nothing
-- of the texts behind the nodes
pub record IsIndexOf (settings : Settings) (rows : Rows) (index : Index) (commits : List Commit) (s : IndexState)
    : Type 0 where
  pub same : rows ≡ replay commits
  pub stands : StandsFor (rules_of settings) (turns_from no_rows commits) s index
  pub are : AreCommits (turns_from no_rows commits)
  pub lead : fold rows_by no_rows (turns_from no_rows commits) ≡ replay commits
  pub fits : FitsTurns (turns_from no_rows commits) s
  pub ascend : RowsAscend 0 (replay commits).largest (replay commits).list

-- it is so for some commits and some state
pub record HasIndex (settings : Settings) (rows : Rows) (index : Index) : Type 0 where
  pub commits : List Commit
  pub state : IndexState
  pub is : IsIndexOf settings rows index commits state
