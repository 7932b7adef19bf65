use Rattle.std.proofs.Common.{◌≡◌, ◌++◌, drop, take}
use Rattle.fts_commits.specs.Commit.{updated}
use Rattle.fts_rows.proofs.updating.keeps_all.Given as goal

abbrev pub invariant-loop-place : goal.invariant-loop-place
invariant-loop-place l = take l.place l.texts ++ updated (drop l.place l.news) (drop l.place l.texts) ≡ updated l.news l.texts
