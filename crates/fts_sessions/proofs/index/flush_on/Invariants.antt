use Rattle.fts_types.specs.declared.settings.Settings.{Settings}
use Rattle.fts_sessions.specs.Transaction.{Transaction}
use Rattle.fts_sessions.proofs.Flushing.{IsWithin}
use Rattle.fts_sessions.proofs.index.flush_on.Given as goal

abbrev pub invariant-loop : goal.invariant-loop
invariant-loop g l =
    (settings : Settings) (transaction : Transaction) → IsWithin g.S.EngineSteps.sight settings transaction l.first l.target l.initial.steps l.counter l.through l.steps
