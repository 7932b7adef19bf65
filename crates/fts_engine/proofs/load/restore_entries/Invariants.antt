use Rattle.std.proofs.Common.{List, ℕ, IsTrue}
use Rattle.fts_log.specs.Records.{Hold}
use Rattle.fts_engine.specs.Loading.{IsRestored, StaysRestored}
use Rattle.fts_engine.specs.Reading.{ReadsBoth}
use Rattle.fts_engine.specs.Restoring.{IsFlushed}
use Rattle.fts_engine.proofs.load.restore_entries.Given as goal

abbrev pub invariant-loop-j : goal.invariant-loop-j
invariant-loop-j g l = record {
  restored : IsTrue g.D.Disk.tells → IsTrue g.E.Disk.tells → (all read : List (List ℕ)) → Hold all l.initial.rows → Hold read l.initial.entries
      → IsRestored all read 0 l.initial.restoring → IsRestored all read l.j l.restoring;
  stays : StaysRestored l.initial.rows l.initial.restoring l.restoring;
  flushed : IsFlushed l.restoring;
  reads : ReadsBoth ⊥ l.initial.rows l.initial.entries l.rows l.entries;
}
