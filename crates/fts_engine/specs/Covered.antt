-- Commits of which no words were made.
use Rattle.std.specs.Prelude.{◌≡◌, ℕ, List, length, fold, take, drop}
use Rattle.fts_types.specs.declared.settings.Settings.{Settings}
use Rattle.fts_types.specs.Rules.{rules_of}
use Rattle.fts_commits.specs.Commit.{Commit, Rows, no_rows, replay}
use Rattle.fts_commits.specs.Turn.{RowsAscend, rows_by, turns_from}
use Rattle.fts_entries.specs.Entry.{IndexState}
use Rattle.fts_index.specs.declared.index.Index.{Index}
use Rattle.fts_index.specs.declared.restore.Covered.{Covered}
use Rattle.fts_index.specs.Stands.{AreCommits}
use Rattle.fts_index.specs.Restore.{Restores}

-- the rows are those of so many commits; the index stands for the state that its entries left over those that are
-- flushed, and those behind them were noted
pub record Covering (settings : Settings) (rows : Rows) (index : Index) (covered : Covered) (count : ℕ)
    (commits : List Commit) (s : IndexState) : Type 0 where
  pub same : rows ≡ replay commits
  pub counted : count ≡ length commits
  pub restores : Restores (rules_of settings) (take s.flushed (turns_from no_rows commits))
      (drop s.flushed (turns_from no_rows commits)) s index covered
  pub are : AreCommits (turns_from no_rows commits)
  pub lead : fold rows_by no_rows (turns_from no_rows commits) ≡ replay commits
  pub ascend : RowsAscend 0 (replay commits).largest (replay commits).list

-- it is so for some commits and some state
pub record HasCovered (settings : Settings) (rows : Rows) (index : Index) (covered : Covered) (count : ℕ) : Type 0 where
  pub commits : List Commit
  pub state : IndexState
  pub is : Covering settings rows index covered count commits state
