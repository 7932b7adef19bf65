use Rattle.std.proofs.Common.{length, subst, sym}
use Rattle.fts_types.specs.declared.settings.Settings.{Settings}
use Rattle.fts_steps.proofs.Making.{made_keeps}
use Rattle.fts_sessions.specs.Transaction.{FitsTable}
use Rattle.fts_top.proofs.generate.play_line.Goals as goal

pub returns-clause-fits : goal.returns-clause-fits
returns-clause-fits g c =
    let batches = c.met_behind-now.ensures.batches in
    subst (λ (s : Settings). FitsTable (length s.columns) c.execute-reply.new.self.transaction)
    (sym (made_keeps g.S.EngineSteps.sight batches.calls c.execute-reply.new.steps c.met_behind-now.new.steps batches.steps).settings) c.execute-reply.ensures.fits
