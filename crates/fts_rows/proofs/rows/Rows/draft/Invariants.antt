use Rattle.std.proofs.Common.{◌≡◌, ◌+◌, drop}
use Rattle.fts_commits.specs.Commit.{after_changes}
use Rattle.fts_commits.specs.Turn.{rows_by}
use Rattle.fts_rows.specs.Plan.{Fits}
use Rattle.fts_rows.proofs.rows.Rows.draft.Given as goal

abbrev pub invariant-loop-change : goal.invariant-loop-change
invariant-loop-change l = record {
  counted : l.number ≡ l.change-index;
  whole : after_changes l.self.limits.ids 1 l.changes l.self.rows ≡ after_changes l.self.limits.ids (l.number + 1) (drop l.change-index l.changes) (rows_by l.self.rows l.draft);
  fits : Fits l.self.rows l.draft l.change-index;
}
