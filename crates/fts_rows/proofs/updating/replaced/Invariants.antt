use Rattle.std.proofs.Common.{◌≡◌, ◌++◌, drop}
use Rattle.fts_commits.specs.Commit.{updated}
use Rattle.fts_rows.proofs.updating.replaced.Given as goal

abbrev pub invariant-loop-place : goal.invariant-loop-place
invariant-loop-place l = l.all ++ updated (drop l.place l.news) (drop l.place l.texts) ≡ updated l.news l.texts
