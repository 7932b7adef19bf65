use Rattle.std.proofs.Common.{ap, ◌∙◌}
use Rattle.fts_ilist.specs.Cursor.{first_positions}
use Rattle.fts_ilist.proofs.Cursors.{positions_there, positions_given}
use Rattle.fts_ilist.proofs.cursor.Cursor.positions.Goals as goal

pub invariant_of-result : goal.invariant_of-result
invariant_of-result c = positions_there c.self.inside.id c.self.inside.rest.now c.self.invariant

pub returns : goal.returns
returns c = positions_given c.self.inside.id c.self.inside.rest.now c.self.invariant ∙ ap first_positions c.self.view_is
