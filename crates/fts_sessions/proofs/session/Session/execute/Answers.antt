use Rattle.std.proofs.Common.{length, subst, sym}
use Rattle.fts_types.specs.declared.settings.Settings.{Settings}
use Rattle.fts_steps.proofs.Making.{made_keeps}
use Rattle.fts_sessions.specs.Transaction.{FitsTable}
use Rattle.fts_sessions.proofs.session.Session.execute.Goals as goal

pub returns-clause-fits : goal.returns-clause-fits
returns-clause-fits g c =
    let executes = c.reply-reply.ensures.executes in
    subst (λ (s : Settings). FitsTable (length s.columns) c.reply-reply.new.self.transaction)
    (sym (made_keeps g.S.EngineSteps.sight executes.calls c.args.steps.now c.reply-reply.new.steps executes.made).settings) c.reply-reply.ensures.fits
