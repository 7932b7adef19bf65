use Rattle.fts_top.specs.Kept.{mets}
use Rattle.fts_top.proofs.Keeping.{unchanged}
use Rattle.fts_top.proofs.sessions.Sessions.skip.Goals as goal

pub returns-in-Some-clause-met : goal.returns-in-Some-clause-met
returns-in-Some-clause-met c = unchanged (mets c.args.self.now) 1 c.in-Some.field-0 c.place_of.new.self.sessions.items c.in-Some.ensures.some
