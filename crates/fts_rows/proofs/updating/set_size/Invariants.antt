use Rattle.std.proofs.Common.{◌≡◌, ◌+◌, drop}
use Rattle.fts_commits.specs.Commit.{set_bytes}
use Rattle.fts_rows.proofs.updating.set_size.Given as goal

abbrev pub invariant-loop-place : goal.invariant-loop-place
invariant-loop-place l = l.size + set_bytes (drop l.place l.news) ≡ set_bytes l.news
