use Rattle.std.proofs.Common.{◌≡◌, List, ℕ, IsTrue}
use Rattle.fts_log.specs.Records.{Hold}
use Rattle.fts_engine.specs.Loading.{IsRestored, StillRestored}
use Rattle.fts_engine.specs.Reading.{ReadsOne}
use Rattle.fts_engine.specs.Restoring.{restoring_settings, restoring_commits}
use Rattle.fts_engine.proofs.load.cover_commits.Given as goal

abbrev pub invariant-loop-k : goal.invariant-loop-k
invariant-loop-k g l = record {
  settings : restoring_settings l.restoring ≡ restoring_settings l.initial.restoring;
  covered : IsTrue g.D.Disk.tells → (all read : List (List ℕ)) (j : ℕ) → Hold all l.initial.rows → (was : IsRestored all read j l.initial.restoring) → StillRestored all read j was l.restoring;
  commits : restoring_commits l.restoring ≡ l.k;
  reads : ReadsOne ⊥ l.initial.rows l.rows;
}
