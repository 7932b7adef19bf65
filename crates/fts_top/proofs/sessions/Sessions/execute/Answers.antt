use Rattle.std.proofs.Common.{length, ap, sym, subst, ◌∙◌}
use Rattle.std.proofs.lemmas.List.Elements.{All-set}
use Rattle.fts_io.specs.Text.{whole}
use Rattle.fts_types.specs.declared.settings.Settings.{Settings}
use Rattle.fts_sessions.specs.declared.session.Session.{Session}
use Rattle.fts_sessions.specs.Transaction.{Transaction, FitsTable}
use Rattle.fts_sessions.specs.Execute.{Executes}
use Rattle.fts_top.specs.Kept.{mets, AllFit}
use Rattle.fts_steps.proofs.Making.{made_keeps}
use Rattle.fts_top.proofs.Keeping.{changed, stands_at, fits_at}
use Rattle.fts_top.proofs.Turning.{passes, executed}
use Rattle.fts_top.proofs.sessions.Sessions.execute.Goals as goal

pub returns-in_default-clause-serves : goal.returns-in_default-clause-serves
returns-in_default-clause-serves g c =
    passes g.S.EngineSteps.sight c.args.line.now (mets c.args.self.now) c.args.steps.now (rw c.in_default.is at c.session_of.ensures.session)

pub execute-requires : goal.execute-requires
execute-requires g c =
    let columns = length (g.S.EngineSteps.sight.settings c.args.steps.now).columns in
    fits_at columns c.in-Some-place_of.place c.place_of.new.self.sessions.items c.index_mut.result.now c.in-Some-place_of.ensures.some.within c.index_mut.ensures.value
    (c.place_of.ensures.fit columns c.requires.fit)

pub returns-in-Some-place_of-clause-serves : goal.returns-in-Some-place_of-clause-serves
returns-in-Some-place_of-clause-serves g c =
    let sight = g.S.EngineSteps.sight in
    let old = mets c.args.self.now in
    let new = c.place_of.new.self.sessions.items in
    let one = c.index_mut.result.now in
    let number = c.in-Some.number in
    let place = c.in-Some-place_of.place in
    executed sight c.args.line.now number old _ c.execute.new.self.transaction c.args.steps.now c.execute.new.steps c.execute.result
    c.in-Some.ensures.session
    (subst (λ (t : Transaction). Executes sight (whole c.args.line.now) t c.args.steps.now c.execute.result c.execute.new.self.transaction c.execute.new.steps)
    (sym (stands_at old number place new one c.in-Some-place_of.ensures.some c.index_mut.ensures.value)) c.execute.ensures.executes)
    (changed old number place new one c.execute.new.self c.in-Some-place_of.ensures.some
    (c.execute.ensures.number ∙ ap (λ (s : Session). s.number) c.index_mut.ensures.value))

pub returns-in-Some-place_of-clause-fit : goal.returns-in-Some-place_of-clause-fit
returns-in-Some-place_of-clause-fit g c =
    let sight = g.S.EngineSteps.sight in
    let columns = length (sight.settings c.execute.new.steps).columns in
    All-set (λ (s : Session). FitsTable columns s.transaction) c.place_of.new.self.sessions.items c.in-Some-place_of.place c.execute.new.self c.execute.ensures.fits
    (subst (λ (s : Settings). AllFit (length s.columns) c.place_of.new.self) (sym (made_keeps sight c.execute.ensures.executes.calls c.args.steps.now c.execute.new.steps c.execute.ensures.executes.made).settings)
    (c.place_of.ensures.fit (length (sight.settings c.args.steps.now).columns) c.requires.fit))

pub returns-in-None-clause-fit : goal.returns-in-None-clause-fit
returns-in-None-clause-fit g c = c.place_of.ensures.fit (length (g.S.EngineSteps.sight.settings c.args.steps.now).columns) c.requires.fit
