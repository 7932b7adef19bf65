-- What a commit makes of the rows and of the index.
use Rattle.std.specs.Prelude.{◌≡◌, Ok, length}
use Rattle.fts_types.specs.declared.settings.Settings.{Settings}
use Rattle.fts_types.specs.Limits.{standard_limits}
use Rattle.fts_types.specs.Rules.{rules_of}
use Rattle.fts_commits.specs.Commit.{Commit, Rows, after_commit}
use Rattle.fts_commits.specs.Turn.{turn_between}
use Rattle.fts_commits.specs.Fits.{IsCommit}
use Rattle.fts_rows.specs.Rows.{Held, rows_of}
use Rattle.fts_rows.specs.Plan.{PlanFor}
use Rattle.fts_index.specs.declared.index.Index.{Index}
use Rattle.fts_index.specs.Births.{AreBirths}
use Rattle.fts_index.specs.Index.{WillTurn}
use Rattle.fts_engine.specs.declared.kept.NextKept.{NextKept}

-- this commit makes these rows of those that are held, and the index gets its turn; there is room for both
pub record WillHold (settings : Settings) (held : Held) (index : Index) (next : NextKept) (commit : Commit)
    (after : Rows) : Type 0 where
  pub made : IsCommit (length settings.columns) commit
  pub accepted : after_commit standard_limits commit (rows_of held) ≡ Ok after
  pub plan : PlanFor held next.plan after
  pub turn : WillTurn (rules_of settings) (turn_between (rows_of held) after) index next.words
  pub births : AreBirths (rows_of held).largest next.plan.largest next.plan.births
