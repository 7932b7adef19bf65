use Rattle.fts_aux.proofs.LooseIn.{has_loose, loose_has}
use Rattle.fts_aux.proofs.tables.Tables.has_loose.Goals as goal

pub returns : goal.returns
returns c = (
  λ yes. has_loose c.self.inside.tables c.args.self.now c.self.view_is c.self.invariant (c.any_loose.ensures.0 yes),
  λ has. c.any_loose.ensures.1 (loose_has c.self.inside.tables c.args.self.now c.self.view_is has),
)
