use Rattle.std.proofs.Common.{List, ℕ, IsTrue}
use Rattle.fts_log.specs.Records.{Hold}
use Rattle.fts_engine.specs.Loading.{IsLoaded}
use Rattle.fts_engine.specs.Reading.{ReadsOne}
use Rattle.fts_engine.proofs.load.load_commits.Given as goal

abbrev pub invariant-loop-k : goal.invariant-loop-k
invariant-loop-k g l = record {
  loaded : IsTrue g.D.Disk.tells → (all read : List (List ℕ)) → Hold all l.initial.records → IsLoaded all l.next read l.initial.kept → IsLoaded all l.k read l.kept;
  reads : ReadsOne ⊥ l.initial.records l.records;
}
