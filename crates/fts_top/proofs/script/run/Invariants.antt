use Rattle.std.proofs.Common.{◌≡◌, ◌+◌, IsTrue, length}
use Rattle.fts_steps.specs.FaultCounts.{CountsFaultOf}
use Rattle.fts_io.specs.Text.{lines_of}
use Rattle.fts_io.specs.Reading.{ahead, ended_ahead, given_by, taken_by, work_left}
use Rattle.fts_steps.specs.Running.{Running}
use Rattle.fts_workers.specs.declared.health.Health.TheVariants.{Failed}
use Rattle.fts_top.specs.Run.{sides}
use Rattle.fts_top.specs.Kept.{mets, AreKept, AllFit}
use Rattle.fts_top.proofs.Meeting.{AreMet}
use Rattle.fts_top.proofs.Fronts.{SoFar}
use Rattle.fts_top.proofs.script.run.Given as goal

abbrev pub invariant-lines : goal.invariant-lines
invariant-lines g l = record {
  front : IsTrue g.I.Source.tells → IsTrue g.O.Sink.tells → (start : Running) → g.S.EngineSteps.sight.stands start l.initial.steps
      → SoFar g.S.EngineSteps.sight start (lines_of (g.I.Source.left l.initial.input)) (ahead l.lines (g.I.Source.left l.input))
      (ended_ahead l.lines (g.I.Source.left l.input)) l.met (mets l.sessions) (given_by l.lines)
      (sides (g.I.Source.left l.initial.input) (g.O.Sink.holds l.initial.out) l.initial.steps)
      (sides (g.I.Source.left l.input) (g.O.Sink.holds l.out) l.steps);
  session : IsTrue g.I.Source.tells → AreMet (lines_of (g.I.Source.left l.initial.input)) (ahead l.lines (g.I.Source.left l.input)) (mets l.sessions);
  kept : AreKept l.sessions;
  fit : AllFit (length (g.S.EngineSteps.sight.settings l.steps).columns) l.sessions;
  counts : IsTrue g.I.Source.tells → taken_by l.lines + length (g.I.Source.left l.input) ≡ length (g.I.Source.left l.initial.input);
  input_calm : g.I.Source.faults l.input ≡ g.I.Source.faults l.initial.input;
  out_calm : g.O.Sink.faults l.out ≡ g.O.Sink.faults l.initial.out;
  steps_counted : CountsFaultOf (l.met ≡ Failed) (g.S.EngineSteps.sight.faults l.initial.steps) (g.S.EngineSteps.sight.faults l.steps);
}

abbrev pub decreases-lines : goal.decreases-lines
decreases-lines g l = work_left l.lines
