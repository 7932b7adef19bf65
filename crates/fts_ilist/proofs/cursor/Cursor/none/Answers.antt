use Rattle.std.proofs.Common.{[]}
use Rattle.fts_ilist.proofs.Cursors.{at_end}
use Rattle.fts_ilist.proofs.cursor.Cursor.none.Goals as goal

pub returns : goal.returns
returns c = at_end []
