use Rattle.std.proofs.Common.{◌≡◌, length}
use Rattle.fts_steps.specs.FaultCounts.{CountsFaultOf}
use Rattle.fts_gen.specs.Script.{lines_left}
use Rattle.fts_steps.specs.Running.{Running}
use Rattle.fts_sessions.specs.Transaction.{FitsTable}
use Rattle.fts_workers.specs.declared.health.Health.TheVariants.{Failed}
use Rattle.fts_top.specs.Generate.{as_lines}
use Rattle.fts_top.proofs.Playing.{PlayedFar}
use Rattle.fts_top.proofs.generate.play_in.Given as goal

abbrev pub invariant-lines : goal.invariant-lines
invariant-lines g l = record {
  far : (start : Running) → g.S.EngineSteps.sight.stands start l.initial.steps
      → PlayedFar g.S.EngineSteps.sight start (as_lines (lines_left l.initial.script)) (as_lines (lines_left l.script)) l.played l.session.transaction l.initial.steps l.steps;
  fits : FitsTable (length (g.S.EngineSteps.sight.settings l.steps).columns) l.session.transaction;
  counted : CountsFaultOf (l.played.met ≡ Failed) (g.S.EngineSteps.sight.faults l.initial.steps) (g.S.EngineSteps.sight.faults l.steps);
}

abbrev pub decreases-lines : goal.decreases-lines
decreases-lines g l = length (lines_left l.script)
